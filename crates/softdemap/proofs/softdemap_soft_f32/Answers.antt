-- `softdemap_soft_f32` meets its contract: each arm is given which answer it has. Assumes nothing.
use mathlib.Core.Path.{◌∙◌}
use mir.Facts.{to_z-of_z}
use Rattle.capture.specs.SoftOut.{soft_status, soft_floats}
use Rattle.softdemap.proofs.softdemap_soft_f32.Goals as goal

pub returns-in-Err : goal.returns-in-Err
unfolding soft_status soft_floats
returns-in-Err c =
    let is = c.in-Err.is in
    record {
      answer = c.convert_soft.result;
      promise = rw (to_z-of_z c.ranges.soft) at c.convert_soft.ensures;
      numbered = rw is (c.into.ensures ∙ c.from.ensures);
      handed = rw is;
    }

pub returns-in-Ok : goal.returns-in-Ok
unfolding soft_status soft_floats
returns-in-Ok c =
    let is = c.in-Ok.is in
    record {
      answer = c.convert_soft.result;
      promise = rw (to_z-of_z c.ranges.soft) at c.convert_soft.ensures;
      numbered = rw is;
      handed = rw is;
    }
