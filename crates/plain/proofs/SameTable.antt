-- No call changes the number of stations, the stock or the table.
-- Assumes nothing.
use mathlib.Core.List.{List, [], ◌∷◌}
use mathlib.Core.Path.{◌≡◌, refl, ◌∙◌}
use Rattle.plain.specs.Down.{received_as}
use Rattle.plain.specs.Release.{given_back}
use Rattle.plain.specs.Request.{requested}
use Rattle.plain.specs.Run.{Call, call, after}
use Rattle.plain.specs.State.{State}
use Rattle.plain.specs.Up.{delivered_of}
use Rattle.plain.specs.Withdraw.{given_up}
use Rattle.plain.proofs.Calls.{each-call}

pub record Same_table (st next : State) : Type 0 where
  pub n : next.n ≡ st.n
  pub stock : next.stock ≡ st.stock
  pub table : next.table ≡ st.table

same : (st : State) → Same_table st st
same st = record { n = refl; stock = refl; table = refl }

pub call_same : (st : State) (c : Call) → Same_table st (call st c).state
unfolding requested delivered_of received_as given_back given_up
call_same st c =
    each-call (λ a. Same_table st a.state) st
    (record {
      is_refused = λ r. same st;
      by_request = λ s q h r room. record { n = refl; stock = refl; table = refl };
      by_up = λ s j m rest d room. record { n = refl; stock = refl; table = refl };
      by_down = λ s j m rest d room. record { n = refl; stock = refl; table = refl };
      by_release = λ s q h r room. record { n = refl; stock = refl; table = refl };
      by_withdraw = λ s q h m w room. record { n = refl; stock = refl; table = refl };
    })
    c

pub calls_same : (st : State) (calls : List Call) → Same_table st (after st calls)
unfolding after
calls_same st [] = same st
calls_same st (c ∷ calls) =
    let one = call_same st c in
    let rest = calls_same (call st c).state calls in
    record { n = rest.n ∙ one.n; stock = rest.stock ∙ one.stock; table = rest.table ∙ one.table }
