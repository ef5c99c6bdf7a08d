use Rattle.std.proofs.Common.{inl, inr}
use Rattle.teco_fs.proofs.Disks.{IsRenaming, one_of}
use Rattle.teco_fs.proofs.FileLogs.{passes}
use Rattle.teco_fs.proofs.memory_disk.MemoryDiskDisk.rename.Goals as goal

pub returns-in-Ok-clause-moments : goal.returns-in-Ok-clause-moments
returns-in-Ok-clause-moments c kept =
    let renamed = c.renamed-renamed.ensures in
    passes c.args.self.now.log c.renamed-renamed.new.self (IsRenaming c.args.from.now c.args.to.now) renamed.grows
    (elim (one_of c.renamed-renamed.result renamed.ok renamed.err) [ inl moved ↦ inr moved | inr same ↦ inl same ])

pub returns-in-Err-clause-moments : goal.returns-in-Err-clause-moments
returns-in-Err-clause-moments c kept =
    let renamed = c.renamed-renamed.ensures in
    passes c.args.self.now.log c.renamed-renamed.new.self (IsRenaming c.args.from.now c.args.to.now) renamed.grows
    (elim (one_of c.renamed-renamed.result renamed.ok renamed.err) [ inl moved ↦ inr moved | inr same ↦ inl same ])
