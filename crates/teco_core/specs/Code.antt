-- The codes: their numbers and their letters.
use Rattle.std.specs.Prelude.{ℕ, List, codes}
use Rattle.teco_core.specs.declared.code.Code.{Code}
use Rattle.teco_core.specs.declared.code.Code.TheVariants as code

abbrev pub number_of : Code → ℕ
number_of code.Arg = 1
number_of code.Bni = 2
number_of code.Cpq = 3
number_of code.Dtb = 4
number_of code.Ice = 5
number_of code.Iia = 6
number_of code.Ill = 7
number_of code.Ipa = 8
number_of code.Iqc = 9
number_of code.Iqn = 10
number_of code.Isa = 11
number_of code.Iss = 12
number_of code.Mrp = 13
number_of code.Nae = 14
number_of code.Naq = 15
number_of code.Nau = 16
number_of code.Ovf = 17
number_of code.Dvz = 18
number_of code.Pdo = 19
number_of code.Pop = 20
number_of code.Sni = 21
number_of code.Srh = 22
number_of code.Tag = 23
number_of code.Utc = 24
number_of code.Yca = 25
number_of code.Big = 26
number_of code.Lim = 27
number_of code.Mem = 28
number_of code.Tty = 29
number_of code.Ntu = 30
number_of code.Ntr = 31
number_of code.End = 32

abbrev pub letters_of : Code → List ℕ
letters_of code.Arg = codes "ARG"
letters_of code.Bni = codes "BNI"
letters_of code.Cpq = codes "CPQ"
letters_of code.Dtb = codes "DTB"
letters_of code.Ice = codes "ICE"
letters_of code.Iia = codes "IIA"
letters_of code.Ill = codes "ILL"
letters_of code.Ipa = codes "IPA"
letters_of code.Iqc = codes "IQC"
letters_of code.Iqn = codes "IQN"
letters_of code.Isa = codes "ISA"
letters_of code.Iss = codes "ISS"
letters_of code.Mrp = codes "MRP"
letters_of code.Nae = codes "NAE"
letters_of code.Naq = codes "NAQ"
letters_of code.Nau = codes "NAU"
letters_of code.Ovf = codes "OVF"
letters_of code.Dvz = codes "DVZ"
letters_of code.Pdo = codes "PDO"
letters_of code.Pop = codes "POP"
letters_of code.Sni = codes "SNI"
letters_of code.Srh = codes "SRH"
letters_of code.Tag = codes "TAG"
letters_of code.Utc = codes "UTC"
letters_of code.Yca = codes "YCA"
letters_of code.Big = codes "BIG"
letters_of code.Lim = codes "LIM"
letters_of code.Mem = codes "MEM"
letters_of code.Tty = codes "TTY"
letters_of code.Ntu = codes "NTU"
letters_of code.Ntr = codes "NTR"
letters_of code.End = codes "END"
