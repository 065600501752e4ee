use Rattle.run_one.proofs.Devices.{told_devices, begun_devices}
use Rattle.run_one.proofs.Failures.{devices_fail}
use Rattle.run_one.proofs.ports.close.close.Goals as goal

pub returns-in-None-clause-exact : goal.returns-in-None-clause-exact
returns-in-None-clause-exact g c well = (
  c.in-None.is,
  told_devices g.W.Write.contents c.args.outputs.writers.items c.flush_all-failed.new.writers.items c.into_devices-in-None.result.items
      (c.flush_all-failed.ensures.exact well) c.into_devices-in-None.ensures,
)

pub returns-in-None-clause-cut : goal.returns-in-None-clause-cut
returns-in-None-clause-cut g c well p bad =
    begun_devices g.W.Write.contents c.args.outputs.writers.items c.flush_all-failed.new.writers.items c.into_devices-in-None.result.items
    (c.flush_all-failed.ensures.cut p bad) c.into_devices-in-None.ensures

pub returns-in-None-clause-failures : goal.returns-in-None-clause-failures
returns-in-None-clause-failures g c well =
    devices_fail c.args.outputs.writers.items c.flush_all-failed.new.writers.items c.into_devices-in-None.result.items c.flush_all-failed.result
    c.flush_all-failed.ensures.failures c.into_devices-in-None.ensures
