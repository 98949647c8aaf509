-- What holds of every held sheet, and of every sheet of bytes; document 01's sheet, by computing. Assumes nothing.
use mathlib.Core.Path.{refl}
use mathlib.Core.List.{flat_map}
use lib.ListN.{length}
use Rattle.sheet.specs.Bytes.{bytes_of}
use Rattle.sheet.specs.Held.{held_of}
use Rattle.sheet.proofs.Claims.{sheets}
use Rattle.encoding.specs.CommandKinds.{kind_of, body_bytes}
use Rattle.encoding.specs.SheetBytes.{group_bytes, head_bytes, groups_bytes, commands_bytes, number_on_new, numbers_on_new, section_bytes, sheet_bytes}
use Rattle.encoding.specs.Said.{said}
use Rattle.encoding.specs.Claims.{Writing}
use Rattle.encoding.proofs.Accepted.{accepted, counts_fit}
use Rattle.encoding.proofs.ReadAgain.{judged}
use Rattle.encoding.proofs.WrittenAgain.{says, not_refused, written_again}
use Rattle.encoding.proofs.Same.{same}
use Rattle.encoding.proofs.Unsaid.{unsaid, only}

pub writing : Writing
unfolding sheet_bytes groups_bytes commands_bytes section_bytes numbers_on_new number_on_new group_bytes head_bytes body_bytes kind_of flat_map bytes_of held_of
writing = record {
  read_again = λ h typed none. (judged h typed (counts_fit h typed (accepted h none))).good none;
  same = same;
  accepted = not_refused;
  says = says;
  written_again = λ s bytes c end e. written_again s c end e bytes;
  only = only;
  unsaid = unsaid;
  faults = λ h typed fits. (judged h typed fits).bad;
  short = λ h typed none.
      sheets.longest (sheet_bytes h) (said h) (length (sheet_bytes h)) ((judged h typed (counts_fit h typed (accepted h none))).good none);
  example = refl;
}
