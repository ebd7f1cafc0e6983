-- Units entered less units left are the units of the stations that hold: of any amount.
-- Assumes nothing.
use mathlib.Core.Bool.{Bool, true, false, cond}
use mathlib.Core.List.{List, [], ◌∷◌}
use mathlib.Core.Path.{◌≡◌, refl, ap}
use Prim.Native.Nat.{ℕ, suc, ◌+◌, ◌<◌}
use native.Mathlib.Omega.{arith}
use lib.Dec.{eqb, ltb}
use Rattle.lists.specs.At.{at}
use Rattle.lists.specs.Counting.{total}
use Rattle.lists.proofs.Totals.{total-at, total-none}
use Rattle.stations.specs.Sets.{places, lowest_from}
use Rattle.quorum.specs.Family.{quorum}
use Rattle.units.specs.Units.{no_units, Amount, amount}
use Rattle.units.specs.declared.Units.{Units}
use Rattle.units.proofs.Amounts.{amount-none}
use Rattle.plain.specs.Answer.{Answer}
use Rattle.plain.specs.Down.{Taken, onward, taken, left, taken_at, enters, phase_then, received_as}
use Rattle.plain.specs.Release.{given_back, held}
use Rattle.plain.specs.Request.{lowest, requested}
use Rattle.plain.specs.Run.{Call, call, run, after, entered, left as left_by, Difference}
use Rattle.plain.specs.State.{State, fresh}
use Rattle.plain.specs.Up.{delivered_of}
use Rattle.plain.specs.Withdraw.{given_up}
use Rattle.plain.specs.declared.Message.{Message}
use Rattle.plain.specs.declared.Phase.{Phase}
use Rattle.plain.specs.declared.Phase.TheVariants.{Idle, Collecting, Holding, Withdrawing}
use Rattle.plain.proofs.Approaching.{made_as, left_as}
use Rattle.plain.proofs.Calls.{each-call}

module _ (a : Amount) where
  -- the amount that those of n stations hold together
  abbrev pub held_by : (ℕ → Phase) → ℕ → ℕ
  held_by phase n = total (λ s. amount a (held (phase s))) n

  -- one station changes its phase
  pub held_at : (phase : ℕ → Phase) (s n : ℕ) (p : Phase) → s < n → held_by (at phase s p) n + amount a (held (phase s)) ≡ held_by phase n + amount a (held p)
  held_at phase s n p l = total-at (λ x. amount a (held x)) phase s p n l

  -- to one in which it holds as little as before, nothing
  held_still : (phase : ℕ → Phase) (s n : ℕ) (p : Phase) → s < n → held (phase s) ≡ no_units → held_by (at phase s p) n ≡ amount a (held p) + held_by phase n
  held_still phase s n p l none = omega (arith, ap (amount a) none, amount-none a, held_at phase s n p l)

  -- what an answer enters and leaves is what the stations hold more or less than before
  abbrev Balanced : State → Answer → Type 0
  Balanced st x = amount a x.entered + held_by st.phase st.n ≡ amount a x.left + held_by x.state.phase x.state.n

  -- what a station makes of a message: only one that holds now has entered its units
  abbrev Entered : State → ℕ → Taken → Type 0
  Entered st s t = held_by (phase_then st s t) st.n ≡ amount a (enters t) + held_by st.phase st.n

  dropped : (st : State) (s : ℕ) → Entered st s Taken.drops
  dropped st s = omega (arith, amount-none a)

  grant_balance : (st : State) (s j : ℕ) → s < st.n → Entered st s (taken st.table j (st.phase s))
  unfolding taken onward
  grant_balance st s j l = go (st.phase s) refl
    where
      go : (p : Phase) → st.phase s ≡ p → Entered st s (taken st.table j p)
      go Idle e = dropped st s
      go (Holding q h) e = dropped st s
      go Withdrawing e = dropped st s
      go (Collecting q h m) e = asked (eqb m j) (ltb (lowest_from (quorum st.table q) (suc j)) places) (lowest_from (quorum st.table q) (suc j))
        where
          none : held (st.phase s) ≡ no_units
          none = rw e

          asked : (b c : Bool) (x : ℕ) → Entered st s (cond b (cond c (Taken.asks q h x) (Taken.holds q h)) Taken.drops)
          asked true true x = held_still st.phase s st.n (Collecting q h x) l none
          asked true false x = held_still st.phase s st.n (Holding q h) l none
          asked false c x = dropped st s

  gone_balance : (st : State) (s : ℕ) → s < st.n → Entered st s (left (st.phase s))
  gone_balance st s l = left_as (Entered st s) (st.phase s) (dropped st s) (λ w. held_still st.phase s st.n Idle l (rw w))

  message_balance : (st : State) (s j : ℕ) (m : Message) → s < st.n → Entered st s (taken_at st s j m)
  message_balance st s j m l = made_as (Entered st s) st.table j (st.phase s) (dropped st s) (grant_balance st s j l) (gone_balance st s l) m

  call_balance : (st : State) (c : Call) → Balanced st (call st c)
  unfolding requested delivered_of received_as given_back given_up
  call_balance st c =
      each-call (Balanced st) st
      (record {
        is_refused = λ r. refl;
        by_request = λ s q h r room. omega (arith, amount-none a, held_still st.phase s st.n (Collecting q h (lowest st q)) r.station (rw r.idle));
        by_up = λ s j m rest d room. refl;
        by_down = λ s j m rest d room. omega (arith, amount-none a, message_balance st s j m d.station);
        by_release = λ s q h r room.
            let mine : held (st.phase s) ≡ h = rw r.holding in
            omega (arith, amount-none a, ap (amount a) mine, held_at st.phase s st.n Idle r.station);
        by_withdraw = λ s q h m w room. omega (arith, amount-none a, held_still st.phase s st.n Withdrawing w.station (rw w.collecting));
      })
      c

  calls_balance : (st : State) (calls : List Call)
      → entered a (run st calls) + held_by st.phase st.n ≡ left_by a (run st calls) + held_by (after st calls).phase (after st calls).n
  unfolding run after entered left_by
  calls_balance st [] = refl
  calls_balance st (c ∷ calls) = omega (arith, call_balance st c, calls_balance (call st c).state calls)

  -- at the start nobody holds
  pub fresh-held : (n : ℕ) (stock : Units) (table : List ℕ) → held_by (fresh n stock table).phase n ≡ 0
  unfolding fresh
  fresh-held n stock table = total-none (λ s. amount a no_units) n (λ s l. amount-none a)

  -- from a fresh state, for every list of calls: "the sum of the units entered in all answers less the sum of the units left in all answers"
  -- is the sum of the units of the stations that hold
  pub difference_held : (n : ℕ) (stock : Units) (table : List ℕ) (calls : List Call)
      → Difference a (run (fresh n stock table) calls) (held_by (after (fresh n stock table) calls).phase (after (fresh n stock table) calls).n)
  unfolding fresh
  difference_held n stock table calls = omega (arith, calls_balance (fresh n stock table) calls, fresh-held n stock table)
