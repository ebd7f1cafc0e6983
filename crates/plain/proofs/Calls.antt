-- What holds of every call's answer: one case for each call that is done, and one for a refusal.
-- Assumes nothing.
use mathlib.Core.Bool.{false}
use mathlib.Core.List.{List}
use mathlib.Core.Path.{◌≡◌}
use Prim.Native.Nat.{ℕ}
use Rattle.units.specs.declared.Units.{Units}
use Rattle.plain.specs.Answer.{Answer, nothing, left_only, refused, done}
use Rattle.plain.specs.Down.{taken_at, returned, down_passes_of, down_refusal, received_as, received, returning, down}
use Rattle.plain.specs.Inner.Passed.{Requests, Delivers, Releases, Withdraws}
use Rattle.plain.specs.Release.{some_passes, release_refusal, given_back, released, held, release}
use Rattle.plain.specs.Request.{request_passes, request_refusal, requested, request_returns, request}
use Rattle.plain.specs.Run.{Call, call}
use Rattle.plain.specs.State.{State}
use Rattle.plain.specs.Up.{up_passes, up_refusal, delivered_of, delivered, up}
use Rattle.plain.specs.Withdraw.{leaving_passes, withdraw_refusal, given_up, withdrawn, withdraw}
use Rattle.plain.specs.declared.Message.{Message}
use Rattle.plain.proofs.Answered.{answered_as}
use Rattle.plain.proofs.Passed.{requests, delivers, releases, withdraws}

-- that a lane or line has room stands last, and apart from what else the call has passed
pub record Each_call (P : Answer → Type 0) (st : State) : Type 0 where
  pub is_refused : (r : ℕ) → P (refused st r)
  pub by_request : (s q : ℕ) (h : Units) → Requests st s q h → request_passes st s q h ≡ false → P (done (request_returns st q) (requested st s q h))
  pub by_up : (s j : ℕ) (m : Message) (rest : List Message) → Delivers st s j (st.up s j) m rest → up_passes st s j m ≡ false
      → P (done nothing (delivered_of st s j m rest))
  pub by_down : (s j : ℕ) (m : Message) (rest : List Message) → Delivers st s j (st.down s j) m rest → down_passes_of st s j m ≡ false
      → P (done (returned st (taken_at st s j m)) (received_as st s j rest (taken_at st s j m)))
  pub by_release : (s q : ℕ) (h : Units) → Releases st s q h → some_passes st s q ≡ false → P (done (left_only h) (given_back st s q))
  pub by_withdraw : (s q : ℕ) (h : Units) (m : ℕ) → Withdraws st s q h m → leaving_passes st s q m ≡ false → P (done nothing (given_up st s q m))

pub each-call : (P : Answer → Type 0) (st : State) → Each_call P st → (c : Call) → P (call st c)
unfolding call request up down release withdraw delivered received returning released withdrawn
each-call P st e (Call.Request s q h) =
    answered_as st (request_returns st q) (requested st s q h) P (request_refusal st s q h) (λ z. let (r, room) = requests st s q h z in e.by_request s q h r room) (e.is_refused (request_refusal st s q h))
each-call P st e (Call.Up s j) =
    answered_as st nothing (delivered st s j (st.up s j)) P (up_refusal st s j)
    (λ z. let (m, rest, d, room) = delivers st s j (st.up s j) (up_passes st s j) z in rw d.taken (e.by_up s j m rest d room))
    (e.is_refused (up_refusal st s j))
each-call P st e (Call.Down s j) =
    answered_as st (returning st s j (st.down s j)) (received st s j (st.down s j)) P (down_refusal st s j)
    (λ z. let (m, rest, d, room) = delivers st s j (st.down s j) (down_passes_of st s j) z in rw d.taken (e.by_down s j m rest d room))
    (e.is_refused (down_refusal st s j))
each-call P st e (Call.Release s) =
    answered_as st (left_only (held (st.phase s))) (released st s (st.phase s)) P (release_refusal st s)
    (λ z. let (q, h, r, room) = releases st s z in rw r.holding (e.by_release s q h r room))
    (e.is_refused (release_refusal st s))
each-call P st e (Call.Withdraw s) =
    answered_as st nothing (withdrawn st s (st.phase s)) P (withdraw_refusal st s)
    (λ z. let (q, h, m, w, room) = withdraws st s z in rw w.collecting (e.by_withdraw s q h m w room))
    (e.is_refused (withdraw_refusal st s))
