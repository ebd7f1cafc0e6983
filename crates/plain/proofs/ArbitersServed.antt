-- In every state that calls lead to from a fresh one, each arbiter's line is empty or its first entry does not fit.
-- Assumes nothing.
use mathlib.Core.Bool.{false}
use mathlib.Core.List.{List}
use mathlib.Core.Path.{◌≡◌, refl}
use Prim.Native.Nat.{ℕ}
use Rattle.lists.proofs.Changed.{at_all}
use Rattle.units.specs.Units.{fits}
use Rattle.units.specs.declared.Units.{Units}
use Rattle.plain.specs.Down.{received_as}
use Rattle.plain.specs.Lanes.{oldest}
use Rattle.plain.specs.Release.{given_back}
use Rattle.plain.specs.Request.{requested}
use Rattle.plain.specs.Run.{Call, call}
use Rattle.plain.specs.State.{Arbiter, State, fresh}
use Rattle.plain.specs.Up.{arrived_at, served_at, delivered_of}
use Rattle.plain.specs.Withdraw.{given_up}
use Rattle.plain.proofs.Calls.{each-call}
use Rattle.plain.proofs.Serving.{serve_ends}

-- a line that was served
abbrev pub LineServed : ℕ → Units → Arbiter → Type 0
LineServed n stock a = oldest (λ e. fits n stock a.granted e.units) a.line ≡ false

abbrev pub LinesServed : State → Type 0
LinesServed st = (j : ℕ) → LineServed st.n st.stock (st.arbiter j)

pub fresh-served : (n : ℕ) (stock : Units) (table : List ℕ) → LinesServed (fresh n stock table)
unfolding fresh
fresh-served n stock table j = refl

-- only Up changes an arbiter, and it ends with service
pub call-served : (st : State) (c : Call) → LinesServed st → LinesServed (call st c).state
unfolding requested delivered_of received_as given_back given_up
call-served st c i =
    each-call (λ a. LinesServed a.state) st
    (record {
      is_refused = λ r. i;
      by_request = λ s q h r room. i;
      by_up = λ s j m rest d room x.
          at_all (LineServed st.n st.stock) st.arbiter j (served_at st s j m).arbiter
          (serve_ends st.n st.stock (arrived_at st s j m).granted (arrived_at st s j m).line) x (i x);
      by_down = λ s j m rest d room. i;
      by_release = λ s q h r room. i;
      by_withdraw = λ s q h m w room. i;
    })
    c
