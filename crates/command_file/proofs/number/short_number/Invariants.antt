use Rattle.std.proofs.Common.{◌≡◌, ◌<◌, ◌^◌, take, true}
use Rattle.std.specs.List.{list_all}
use Rattle.command_file.specs.Text.{digits_value, is_digit}
use Rattle.command_file.proofs.number.short_number.Given as goal

abbrev pub invariant-loop-digit : goal.invariant-loop-digit
invariant-loop-digit l =
    (list_all is_digit (take l.digit-index l.word) ≡ true) × (l.value ≡ digits_value (take l.digit-index l.word))
    × (l.value < 10 ^ l.digit-index)
