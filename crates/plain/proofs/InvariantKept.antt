-- What holds in every state that calls lead to from a fresh one: a law for Withdraw; then at the start, at each call, and after any list of
-- calls.
-- Assumes nothing.
use mathlib.Core.Bool.{true, false}
use mathlib.Core.List.{List}
use mathlib.Core.Logic.{by_cases, ⊎_elim}
use mathlib.Core.Path.{◌≡◌, refl}
use Prim.Native.Nat.{ℕ, ◌<◌}
use native.Mathlib.Decide.{ℕ_discrete, dec_lt}
use native.Mathlib.Omega.{arith}
use Rattle.lists.specs.At.{at}
use Rattle.lists.proofs.Changed.{at_same, at_other}
use Rattle.std.proofs.lemmas.Bool.{cases_Bool}
use Rattle.stations.specs.Member.{member}
use Rattle.quorum.specs.Family.{quorum}
use Rattle.units.specs.declared.Units.{Units}
use Rattle.units.proofs.Amounts.{within_none}
use Rattle.plain.specs.Arbiter.{units_in}
use Rattle.plain.specs.Inner.Passed.{Withdraws}
use Rattle.plain.specs.Run.{Call, call, after}
use Rattle.plain.specs.State.{fresh, State}
use Rattle.plain.specs.Withdraw.{withdrawing, given_up}
use Rattle.plain.specs.declared.Phase.TheVariants.{Collecting, Withdrawing}
use Rattle.plain.proofs.Calls.{each-call}
use Rattle.plain.proofs.Invariant.{approaches, Invariant, request-keeps, up-keeps, down-keeps, release-keeps}
use Rattle.plain.proofs.Pairs.{Part, Pair, sends-release, sends-withdraw}
use Rattle.plain.proofs.Runs.{after-keeps}
use Rattle.plain.proofs.Wants.{wants, share_member, share_other, wants_here, wants_below, wants_above, wants_left, wants_others}
use Rattle.plain.proofs.Withdrawing.{withdrawing-here, withdrawing-member, withdrawing_other, withdrawing-above, approached_below}

-- ---- Withdraw

module _ (st : State) (s q : ℕ) (h : Units) (m : ℕ) (w : Withdraws st s q h m) (i : Invariant st) where
  set : ℕ
  set = quorum st.table q

  pub withdraw-keeps : Invariant (given_up st s q m)
  unfolding given_up approaches set
  withdraw-keeps =
      record {
        leaving = at i.leaving s m;
        pairs = λ t x. by_cases (ℕ_discrete t s) (λ (e : t ≡ s). rw (e, at_same st.phase s Withdrawing, at_same st.up s _, at_same i.leaving s m) (own x)) (λ (o : t ≡ s → ⊥).
            rw (at_other st.phase s Withdrawing t o, at_other st.up s _ t o, at_other i.leaving s m t o) (i.pairs t x));
        stock = i.stock;
        members = λ t. by_cases (ℕ_discrete t s) (λ (e : t ≡ s). rw (e, at_same st.phase s Withdrawing, at_same i.leaving s m) (approached_below st s q h m w)) (λ (o : t ≡ s → ⊥).
            rw (at_other st.phase s Withdrawing t o, at_other i.leaving s m t o) (i.members t));
      }
    where
      before : (x : ℕ) → Pair (wants st.table (i.leaving s) (Collecting q h m) x) (st.up s x) (units_in s (st.arbiter x).line) ((st.arbiter x).granted s) (st.down s x)
      before x = rw w.collecting at (i.pairs s x)

      granted : (x : ℕ) → x < m → Pair Part.nothing (withdrawing set m (st.up s) x) (units_in s (st.arbiter x).line) ((st.arbiter x).granted s) (st.down s x)
      granted x l =
          let mine = rw (wants_below st.table (i.leaving s) q h m x l) at (before x) in
          ⊎_elim (λ (b : member set x ≡ true). rw (withdrawing-member set m (st.up s) x l b) (sends-release (rw (share_member st.table q h x b) at mine)))
          (λ (b : member set x ≡ false). rw (withdrawing_other set m (st.up s) x l b) (rw (share_other st.table q h x b) at mine))
          (cases_Bool (member set x))

      own : (x : ℕ) → Pair (wants st.table m Withdrawing x) (withdrawing set m (st.up s) x) (units_in s (st.arbiter x).line) ((st.arbiter x).granted s) (st.down s x)
      own x =
          by_cases (ℕ_discrete x m)
          (λ (e : x ≡ m). rw (e, wants_left st.table m, withdrawing-here set m (st.up s)) (sends-withdraw (rw (wants_here st.table (i.leaving s) q h m) at (before m))))
          (λ (o : x ≡ m → ⊥). rw (wants_others st.table m x o)
          (by_cases (dec_lt x m) (λ (l : x < m). granted x l)
          (λ (l : ¬ (x < m)). rw (withdrawing-above set m (st.up s) x (omega arith)) (rw (wants_above st.table (i.leaving s) q h m x (omega arith)) at (before x)))))

-- ---- at the start, at each call, and after any list of calls

pub fresh_keeps : (n : ℕ) (stock : Units) (table : List ℕ) → Invariant (fresh n stock table)
unfolding fresh wants units_in approaches
fresh_keeps n stock table =
    record {
      leaving = λ s. 0;
      pairs = λ s j. Pair.clear;
      stock = λ j. within_none n stock;
      members = λ s. refl;
    }

pub call-keeps : (st : State) (c : Call) → Invariant st → Invariant (call st c).state
call-keeps st c i =
    each-call (λ a. Invariant a.state) st
    (record {
      is_refused = λ r. i;
      by_request = λ s q h r room. request-keeps st s q h r i;
      by_up = λ s j m rest d room. up-keeps st s j m rest d i;
      by_down = λ s j m rest d room. down-keeps st s j m rest d i;
      by_release = λ s q h r room. release-keeps st s q h r i;
      by_withdraw = λ s q h m w room. withdraw-keeps st s q h m w i;
    })
    c

pub calls_keep : (st : State) (calls : List Call) → Invariant st → Invariant (after st calls)
calls_keep st calls i = after-keeps Invariant call-keeps st calls i
