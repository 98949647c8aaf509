-- What a held sheet says: its groups and commands, without what no sheet of bytes holds. Levels past n, groups with their zeros and commands past their counts, and a target
-- beside a command that has none are not said. Assumes nothing.
use Rattle.std.specs.Prelude.{cond, [], map}
use Rattle.permutation.specs.Records.{list_of}
use Rattle.sheet.specs.Sheet.{Contents, entry}
use Rattle.sheet.specs.Held.{contents_of}
use Rattle.sheet.specs.declared.held.Entry.{Entry}
use Rattle.sheet.specs.declared.held.Sheet.{Sheet}
use Rattle.encoding.specs.CommandKinds.{targeted}

-- a command, with the names of its target where it has one
abbrev pub entry_said : Entry → Entry
entry_said e = entry e.command.group e.command.action (cond (targeted e.command.action) (list_of e.target) [])

unfoldable pub said : Sheet → Contents
said sheet = record { groups = (contents_of sheet).groups; zeros = (contents_of sheet).zeros; entries = map entry_said (contents_of sheet).entries }
