-- What a call makes of a station's phase: another station's call leaves it, and of its own calls Up does too.
-- Assumes nothing.
use mathlib.Core.Bool.{false, ◌&&◌, true≢false}
use mathlib.Core.List.{List, [], ◌∷◌}
use mathlib.Core.Logic.{by_cases}
use mathlib.Core.Path.{◌≡◌, refl, sym}
use Prim.Native.Nat.{ℕ}
use native.Mathlib.Decide.{ℕ_discrete}
use lib.Dec.{eqb}
use borrow.Author.Tests.{eq-eqb, ne_eqb}
use Rattle.lists.proofs.Changed.{at_other, at_all}
use Rattle.plain.specs.Answer.{Returned, nothing, left_only, answered}
use Rattle.plain.specs.Down.{Taken, taken_at, down_refusal, phase_then, received_as, received, returning, down}
use Rattle.plain.specs.Release.{release_refusal, given_back, released, held, release}
use Rattle.plain.specs.Request.{request_refusal, lowest, requested, request_returns, request}
use Rattle.plain.specs.Run.{Call, call}
use Rattle.plain.specs.State.{State}
use Rattle.plain.specs.StillToCome.{asks_on}
use Rattle.plain.specs.Up.{up_refusal, delivered_of, delivered, up}
use Rattle.plain.specs.Withdraw.{withdraw_refusal, given_up, withdrawn, withdraw}
use Rattle.plain.specs.Withdrawn.{asks}
use Rattle.plain.specs.declared.Message.{Message}
use Rattle.plain.specs.declared.Phase.{Phase}
use Rattle.plain.specs.declared.Phase.TheVariants.{Idle, Collecting, Holding, Withdrawing}
use Rattle.plain.proofs.Answered.{answered_as}

-- something that holds of what station s does now
module _ (s : ℕ) (st : State) (P : Phase → Type 0) (now : P (st.phase s)) where
  pub answer_keeps : (r : ℕ) (x : Returned) (next : State) → P (next.phase s) → P ((answered st r x next).state.phase s)
  answer_keeps r x next p = answered_as st x next (λ a. P (a.state.phase s)) r (λ z. p) now

  up-keeps : (t j : ℕ) (lane : List Message) → P ((delivered st t j lane).phase s)
  unfolding delivered delivered_of
  up-keeps t j [] = now
  up-keeps t j (m ∷ rest) = now

  made-keeps : (t : ℕ) → (s ≡ t → ⊥) → (x : Taken) → P (phase_then st t x s)
  made-keeps t d (Taken.asks q h i) = rw (at_other st.phase t (Collecting q h i) s d) now
  made-keeps t d (Taken.holds q h) = rw (at_other st.phase t (Holding q h) s d) now
  made-keeps t d Taken.idles = rw (at_other st.phase t Idle s d) now
  made-keeps t d Taken.drops = now

  down-keeps : (t j : ℕ) → (s ≡ t → ⊥) → (lane : List Message) → P ((received st t j lane).phase s)
  unfolding received received_as
  down-keeps t j d [] = now
  down-keeps t j d (m ∷ rest) = made-keeps t d (taken_at st t j m)

  release-keeps : P Idle → (t : ℕ) (p : Phase) → P ((released st t p).phase s)
  unfolding released given_back
  release-keeps idle t Idle = now
  release-keeps idle t (Collecting q h m) = now
  release-keeps idle t (Holding q h) = at_all P st.phase t Idle idle s now
  release-keeps idle t Withdrawing = now

  withdraw-keeps : P Withdrawing → (t : ℕ) (p : Phase) → P ((withdrawn st t p).phase s)
  unfolding withdrawn given_up
  withdraw-keeps w t Idle = now
  withdraw-keeps w t (Collecting q h m) = at_all P st.phase t Withdrawing w s now
  withdraw-keeps w t (Holding q h) = now
  withdraw-keeps w t Withdrawing = now

  -- What holds of every Down of s, and of every other call, but for a Request of s that is done: such a call sends no REQUEST of s, and what held of
  -- its phase holds then, if it holds of a station that is idle and of one that withdraws.
  pub each_own : (Q : Call → Type 0) → P Idle → P Withdrawing → ((j : ℕ) → Q (Call.Down s j))
      → ((c : Call) → asks_on s st c ≡ false → P ((call st c).state.phase s) → Q c) → (c : Call) → asks s st c ≡ false → Q c
  unfolding call request requested up down release withdraw
  each_own Q idle withdrawing own other (Call.Request t q h) e =
      other (Call.Request t q h) refl
      (answered_as st (request_returns st q) (requested st t q h) (λ a. (eqb t s && eqb a.refusal 0) ≡ false → P (a.state.phase s)) (request_refusal st t q h)
      (λ z y. rw (at_other st.phase t (Collecting q h (lowest st q)) s (λ (i : s ≡ t). true≢false (rw (eq-eqb t s (sym i)) at y))) now)
      (λ y. now)
      e)
  each_own Q idle withdrawing own other (Call.Up t j) e =
      other (Call.Up t j) refl (answer_keeps (up_refusal st t j) nothing (delivered st t j (st.up t j)) (up-keeps t j (st.up t j)))
  each_own Q idle withdrawing own other (Call.Down t j) e =
      by_cases (ℕ_discrete s t)
      (λ (z : s ≡ t). rw (sym z) (own j))
      (λ (d : s ≡ t → ⊥). other (Call.Down t j) (rw (ne_eqb t s (λ (z : t ≡ s). d (sym z))))
      (answer_keeps (down_refusal st t j) (returning st t j (st.down t j)) (received st t j (st.down t j)) (down-keeps t j d (st.down t j))))
  each_own Q idle withdrawing own other (Call.Release t) e =
      other (Call.Release t) refl (answer_keeps (release_refusal st t) (left_only (held (st.phase t))) (released st t (st.phase t)) (release-keeps idle t (st.phase t)))
  each_own Q idle withdrawing own other (Call.Withdraw t) e =
      other (Call.Withdraw t) refl (answer_keeps (withdraw_refusal st t) nothing (withdrawn st t (st.phase t)) (withdraw-keeps withdrawing t (st.phase t)))
