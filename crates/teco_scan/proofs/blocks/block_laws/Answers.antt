use Rattle.teco_scan.proofs.ListUnrolls.{list_step, list_short}
use Rattle.teco_scan.proofs.SearchUnrolls.{tag_step}
use Rattle.teco_scan.proofs.SearchFinds.{tag_leads}
use Rattle.teco_scan.proofs.ListFaults.{list_fault}
use Rattle.teco_scan.proofs.TokenShortens.{scan_short}
use Rattle.teco_scan.proofs.ScanFaults.{scan_fault}
use Rattle.teco_scan.proofs.blocks.block_laws.Goals as goal

pub returns : goal.returns
returns c p = record {
  list_unrolls = list_step p;
  search_unrolls = tag_step p;
  token_shortens = scan_short p;
  list_shortens = list_short p;
  search_finds = tag_leads p;
  scan_faults = scan_fault p;
  list_faults = list_fault p;
}
