use Rattle.terms.proofs.Meaning.{wires_by_bytes, rows_by_wires, high_means_all}
use Rattle.terms.proofs.laws.sets_mean_wires.Goals as goal

pub returns : goal.returns
returns c = record { bytes = wires_by_bytes; rows = rows_by_wires; high = high_means_all }
