use Rattle.std.proofs.Common.{◌≡◌, take, map, Some}
use Rattle.settings.specs.Lists.{each_of}
use Rattle.settings.specs.Texts.{number_to}
use Rattle.settings.proofs.texts.numbers.Given as goal

abbrev pub invariant-loop-part : goal.invariant-loop-part
invariant-loop-part l = each_of (number_to 255) (map (λ part. part.now) (take l.part-index l.parts)) ≡ Some l.octets.items
