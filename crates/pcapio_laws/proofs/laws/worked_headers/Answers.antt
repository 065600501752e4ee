use Rattle.pcapio_laws.proofs.Rows.{alone, little_nano, big_nano, big_micro, ignored_high, ignored, short, not_pcap, bad_major, bad_minor, bad_link}
use Rattle.pcapio_laws.proofs.Rows.{short_first, modified, next_format, old_major, old_minor, no_link, high_link}
use Rattle.pcapio_laws.proofs.laws.worked_headers.Goals as goal

pub returns-clause-alone : goal.returns-clause-alone
returns-clause-alone c = alone

pub returns-clause-little_nano : goal.returns-clause-little_nano
returns-clause-little_nano c = little_nano

pub returns-clause-big_nano : goal.returns-clause-big_nano
returns-clause-big_nano c = big_nano

pub returns-clause-big_micro : goal.returns-clause-big_micro
returns-clause-big_micro c = big_micro

pub returns-clause-ignored_high : goal.returns-clause-ignored_high
returns-clause-ignored_high c = ignored_high

pub returns-clause-ignored : goal.returns-clause-ignored
returns-clause-ignored c = ignored

pub returns-clause-short : goal.returns-clause-short
returns-clause-short c = short

pub returns-clause-not_pcap : goal.returns-clause-not_pcap
returns-clause-not_pcap c = not_pcap

pub returns-clause-bad_major : goal.returns-clause-bad_major
returns-clause-bad_major c = bad_major

pub returns-clause-bad_minor : goal.returns-clause-bad_minor
returns-clause-bad_minor c = bad_minor

pub returns-clause-bad_link : goal.returns-clause-bad_link
returns-clause-bad_link c = bad_link

pub returns-clause-short_first : goal.returns-clause-short_first
returns-clause-short_first c = short_first

pub returns-clause-modified : goal.returns-clause-modified
returns-clause-modified c = modified

pub returns-clause-next_format : goal.returns-clause-next_format
returns-clause-next_format c = next_format

pub returns-clause-old_major : goal.returns-clause-old_major
returns-clause-old_major c = old_major

pub returns-clause-old_minor : goal.returns-clause-old_minor
returns-clause-old_minor c = old_minor

pub returns-clause-no_link : goal.returns-clause-no_link
returns-clause-no_link c = no_link

pub returns-clause-high_link : goal.returns-clause-high_link
returns-clause-high_link c = high_link
