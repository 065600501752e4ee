-- What settings show of the document that they were read from.
use Rattle.settings.specs.declared.read.Settings.{Settings}
use Rattle.settings.specs.Settings.{Content}
use Rattle.settings.specs.declared.numbers.Numbers.{Numbers}
use Rattle.settings.specs.Shown.{content_in}

abbrev pub numbers_in : Settings → Numbers
numbers_in s = record {
  buffers = s.buffers;
  headroom = s.headroom;
  room = s.room;
  cache = s.cache;
  burst = s.burst;
  ring = s.ring;
  bits = s.table.bits;
  groups = s.table.limit;
}

abbrev pub shown : Settings → Content
shown s = content_in (numbers_in s) s.table s.ports
