use Rattle.vectors.specs.Counts.{none}
use Rattle.vectors.proofs.replay_file.Goals as goal

pub returns-in-Err : goal.returns-in-Err
returns-in-Err g c = record { records = 0; counts = none }
