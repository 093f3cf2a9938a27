use Rattle.kinds.proofs.Arrival.{sound, exactly, shaped, signed, steps_clear}
use Rattle.kinds.proofs.Lowest.{ends_in_state, kept_by_lowest, ends_without_terms, steps_at_lowest}
use Rattle.kinds.proofs.balances_are_exact.Goals as goal

pub returns : goal.returns
returns g c =
    let l = g.met.T.Number.lawful in
    record {
      sound = sound l;
      exactly = exactly l;
      shaped = shaped l;
      signed = signed l;
      states = ends_in_state l;
      kept = kept_by_lowest l;
      steps = steps_at_lowest l;
      ends = ends_without_terms l;
      clear = steps_clear l;
    }
