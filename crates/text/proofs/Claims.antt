-- What holds of every text; document 01's sheet has its output on either zero and with a change, by computing. Assumes nothing.
use mathlib.Core.Path.{refl, ap}
use mathlib.Core.List.{zip_with}
use Rattle.theory.specs.CountUp.{call_number, call_pushes, call_levels, count_up, next_cell}
use Rattle.theory.specs.Lists.{delta}
use Rattle.theory.specs.Levels.{insert_by_level, sort_by_level, permutation_of, push_level, read_number}
use Rattle.theory.specs.Successor.{successor, smaller}
use Rattle.theory.specs.Permutation.{place_of}
use Rattle.theory.specs.Push.{push}
use Rattle.theory.specs.Rewrite.{rewrite_count, rewrite_pushes}
use Rattle.theory.specs.Rank.{digit, remaining, rank}
use Rattle.theory.specs.Unrank.{place_of_digit, insert_at, unrank}
use Rattle.theory.specs.Zero.{value_from}
use Rattle.permutation.specs.Records.{once_each, all_zero, record_number}
use Rattle.charge.specs.Answers.{call_answer}
use Rattle.rewriting.specs.Answers.{target_number, rewrite_number, rewrite_answer, rewrite_levels}
use Rattle.symbols.specs.Answers.{lead_answer, lead_levels, lead_number, code_number}
use Rattle.sheet.specs.Bytes.{after, check, many, little, number}
use Rattle.sheet.specs.ZeroSection.{rising, named_groups, section, zeros_of, zeros_at}
use Rattle.sheet.specs.Sheet.{group, count_at, rewrite_at, store_at, change_at, body_at, command, command_row, commands, sheet}
use Rattle.sheet.proofs.Claims.{sheets}
use Rattle.layout.specs.Text.{text_of, line, places, decimal, command_line, command_lines, group_line, group_lines}
use Rattle.text.specs.Claims.{Texts}
use Rattle.work.specs.Work.{answers, groups_after_all, zeros_after_all}

pub texts : Texts
unfolding
    text_of line places decimal command_line command_lines group_line group_lines answers groups_after_all zeros_after_all
    call_answer call_number call_pushes call_levels count_up next_cell push_level insert_by_level sort_by_level permutation_of successor smaller place_of
    rewrite_answer rewrite_levels rewrite_number target_number rewrite_count rewrite_pushes read_number record_number once_each all_zero push
    lead_answer lead_levels lead_number code_number digit remaining rank delta zip_with value_from place_of_digit insert_at unrank
    sheet after number check little many group commands command_row zeros_at section named_groups rising zeros_of command body_at count_at rewrite_at store_at change_at
texts = record { example = ap text_of sheets.example; example_zeros = refl; example_change = refl; example_changed = refl; decided = λ s. ap text_of (sheets.decided s) }
