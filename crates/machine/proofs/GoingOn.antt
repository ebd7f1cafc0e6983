-- A list of calls in the middle: what has been answered, and the calls that are left.
-- Assumes nothing.
use mathlib.Core.Bool.{true}
use mathlib.Core.List.{List, [], ◌∷◌, ◌++◌, append-nil, append_assoc}
use mathlib.Core.Logic.{by_cases}
use mathlib.Core.Path.{◌≡◌, refl, sym, ap, ◌∙◌}
use Prim.Native.Nat.{ℕ, ◌+◌, ◌-◌, ◌*◌, ◌≤◌, ◌<◌}
use native.Mathlib.Decide.{dec_lt}
use native.Mathlib.Nat.{zero-add}
use native.Mathlib.Omega.{arith}
use lib.ListN.{length, get_or, drop, length-append, drop_of_length-le}
use lib.Seq.{sets, length-sets}
use borrow.Author.Tests.{eqb-true}
use Rattle.lists.proofs.Joined.{sets_append, sets_front}
use Rattle.lists.proofs.Tests.{and_left, and_right}
use Rattle.units.specs.Units.{number_of}
use Rattle.plain.specs.Answer.{Answer}
use Rattle.plain.specs.Run.{call, run, after}
use Rattle.plain.specs.State.{State}
use Rattle.machine.specs.Performing.{answer_words, do_words, formed, well_formed, call_of, calls_of, words_of}
use Rattle.machine.proofs.PerformingCalls.{formed_word, well_formed-next, calls_next, well_formed_end, calls_length}

pub record Going (calls lent : List ℕ) (st₀ : State) (out : List ℕ) (st : State) (i o : ℕ) : Type 0 where
  pub within : i ≤ length calls
  pub form : well_formed (drop i calls) ≡ true
  pub pace : 4 * o ≡ answer_words * i
  pub written : List ℕ
  pub long : length written ≡ o
  pub stored : out ≡ sets lent 0 written
  pub words : words_of (run st₀ (calls_of calls)) ≡ written ++ words_of (run st (calls_of (drop i calls)))
  pub state : after st₀ (calls_of calls) ≡ after st (calls_of (drop i calls))

module _ (calls lent : List ℕ) (st₀ : State) where
  pub going_none : well_formed calls ≡ true → Going calls lent st₀ lent st₀ 0 0
  going_none form =
      record { within = omega arith; form = form; pace = refl; written = []; long = refl; stored = refl; words = refl; state = refl }

  module _ (out : List ℕ) (st : State) (i o : ℕ) (going : Going calls lent st₀ out st i o) where
    pub same_length : length out ≡ length lent
    same_length = ap length going.stored ∙ length-sets lent 0 going.written

    -- a call that is begun is whole
    pub whole : i < length calls → i + 4 ≤ length calls
    whole h =
        by_cases (dec_lt (length calls - i) 4)
        (λ (few : length calls - i < 4).
        let e = eqb-true i (length calls) (sym (well_formed_end calls i going.within few) ∙ going.form) in
        absurd (omega arith))
        (λ (enough : ¬ (length calls - i < 4)). omega arith)

    -- it begins with one of the words,
    pub word : i < length calls → get_or calls i 0 < do_words
    word h =
        formed_word (get_or calls i 0) (get_or calls (i + 2) 0) (get_or calls (i + 3) 0)
        (and_left (formed (get_or calls i 0) (get_or calls (i + 2) 0) (get_or calls (i + 3) 0)) (well_formed (drop (i + 4) calls)) (sym (well_formed-next calls i (whole h)) ∙ going.form))

    -- and finds room for its answer
    pub room : well_formed calls ≡ true → answer_words * length (calls_of calls) ≤ length lent → i < length calls → o + answer_words ≤ length out
    room form enough h = omega (arith, whole h, going.pace, calls_length calls form, same_length)

    -- one call more
    module _ (h : i < length calls) (a : Answer) (answered : a ≡ call st (call_of (get_or calls i 0) (get_or calls (i + 1) 0) (get_or calls (i + 2) 0) (get_or calls (i + 3) 0))) where
      abbrev numbers : List ℕ
      numbers = a.refusal ∷ number_of a.entered ∷ number_of a.left ∷ a.above ∷ []

      words-next : words_of (run st₀ (calls_of calls)) ≡ (going.written ++ numbers) ++ words_of (run a.state (calls_of (drop (i + 4) calls)))
      unfolding run words_of
      words-next =
          going.words
          ∙ rw (calls_next calls i (whole h), sym answered)
          (sym (append_assoc going.written numbers (words_of (run a.state (calls_of (drop (i + 4) calls))))))

      state-next : after st₀ (calls_of calls) ≡ after a.state (calls_of (drop (i + 4) calls))
      unfolding after
      state-next = going.state ∙ rw (calls_next calls i (whole h)) (ap (λ (x : Answer). after x.state (calls_of (drop (i + 4) calls))) (sym answered))

      stored_next : sets out o numbers ≡ sets lent 0 (going.written ++ numbers)
      stored_next =
          ap (λ (l : List ℕ). sets l o numbers) going.stored
          ∙ sym (sets_append lent 0 going.written numbers ∙ rw (zero-add (length going.written), going.long))

      pub going_more : (next : List ℕ) → next ≡ sets out o numbers → Going calls lent st₀ next a.state (i + 4) (o + answer_words)
      going_more next is =
          record {
            within = whole h;
            form = and_right (formed (get_or calls i 0) (get_or calls (i + 2) 0) (get_or calls (i + 3) 0)) (well_formed (drop (i + 4) calls)) (sym (well_formed-next calls i (whole h)) ∙ going.form);
            pace = omega (arith, going.pace);
            written = going.written ++ numbers;
            long = length-append going.written numbers ∙ ap (λ (l : ℕ). l + answer_words) going.long;
            stored = is ∙ stored_next;
            words = words-next;
            state = state-next;
          }

    -- no call is left
    module _ (form : well_formed calls ≡ true) (enough : answer_words * length (calls_of calls) ≤ length lent) (h : length calls ≤ i) where
      none_left : drop i calls ≡ []
      none_left = drop_of_length-le calls {i = i} h

      pub all_after : st ≡ after st₀ (calls_of calls)
      unfolding after calls_of
      all_after = sym (going.state ∙ rw none_left)

      all_words : words_of (run st₀ (calls_of calls)) ≡ going.written
      unfolding words_of run calls_of
      all_words = going.words ∙ rw none_left (append-nil going.written)

      pub all-stored : out ≡ words_of (run st₀ (calls_of calls)) ++ drop (answer_words * length (calls_of calls)) lent
      all-stored =
          let e : length going.written ≡ answer_words * length (calls_of calls) = omega (arith, going.pace, going.long, going.within, calls_length calls form) in
          going.stored
          ∙ sets_front lent going.written (omega arith)
          ∙ rw (all_words, e)
