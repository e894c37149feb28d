-- A loop in which things are shown one after another.
use Rattle.std.proofs.Common.{◌≡◌, ◌⊎◌, inl, inr, ℕ, List, [], ◌∷◌, ◌++◌, Option, Result, Ok, Err, sym, subst}
use Rattle.email_bodies.specs.Asking.{BodyAsk, NoneAsked, AreDue, AsksInVain}
use Rattle.email_bodies.specs.declared.source.MessagePlace.{MessagePlace}
use Rattle.email_bodies.proofs.Due.{none_due, due_after}
use Rattle.email_bodies.proofs.Joins.{asks_join, vain_after, vain_then}
use Rattle.email_get.specs.Asked.{AsksAnd, FailsAfter}
use Rattle.email_get.specs.Showing.{ShowsAll}
use Rattle.email_get.proofs.ShowingLemmas.{Leads, leads_at_first, leads_on, leads_nowhere, leads_to_all}

module _ {S A D E : Type 0} (Answers : S → MessagePlace → Option (List ℕ) → S → Type 0) (Lacks : S → MessagePlace → S → Type 0)
    (Shows : A → List BodyAsk → Result D E → Type 0) (all : List A) where
  -- the asks after which things can't be shown
  abbrev AllFail : List BodyAsk → Type 0
  AllFail = FailsAfter (ShowsAll Shows all)

  -- these were asked so far and were due, so much is done, and the rest is still to be shown
  abbrev pub SoFar : S → S → List A → List D → Type 0
  SoFar before mid rest done = AsksAnd Answers Lacks before mid (λ (asks : List BodyAsk). Leads Shows all rest asks done × AreDue (FailsAfter (ShowsAll Shows all)) asks)

  pub begins : (s : S) (rest : List A) (done : List D) → rest ≡ all → done ≡ [] → SoFar s s rest done
  begins s rest done rest_is none = record {
    asks = [];
    asked = NoneAsked;
    meant =
        let P : List D → Type 0 = λ l. Leads Shows all rest [] l in
        let Q : List A → Type 0 = λ l. Leads Shows all l [] [] in
        (subst P (sym none) (subst Q (sym rest_is) (leads_at_first Shows all)), none_due AllFail);
  }

  -- where the next one fails, all do
  fails_next : (before mid : S) (rest behind : List A) (x : A) (done : List D) → rest ≡ x ∷ behind → (so_far : SoFar before mid rest done) (more : List BodyAsk)
      → FailsAfter (Shows x) more → AllFail (so_far.asks ++ more)
  fails_next before mid rest behind x done rest_is so_far more fails =
      let P : List A → Type 0 = λ l. Leads Shows all l so_far.asks done in
      (fails.0, leads_nowhere Shows all behind x so_far.asks more done fails.0 (subst P rest_is so_far.meant.0) fails.1)

  -- what is asked for the next one is due too
  due_next : (before mid : S) (rest behind : List A) (x : A) (done : List D) → rest ≡ x ∷ behind → (so_far : SoFar before mid rest done) (more : List BodyAsk)
      → AreDue (FailsAfter (Shows x)) more → AreDue AllFail (so_far.asks ++ more)
  due_next before mid rest behind x done rest_is so_far more due =
      due_after (FailsAfter (Shows x)) AllFail so_far.asks more so_far.meant.1 (fails_next before mid rest behind x done rest_is so_far) due

  pub continues : (before mid after : S) (rest behind : List A) (x : A) (done next : List D) (d : D) → rest ≡ x ∷ behind → next ≡ done ++ d ∷ []
      → ((asks : List BodyAsk) → Shows x asks (Ok d) → AreDue (FailsAfter (Shows x)) asks) → SoFar before mid rest done
      → AsksAnd Answers Lacks mid after (λ (asks : List BodyAsk). Shows x asks (Ok d)) → SoFar before after behind next
  continues before mid after rest behind x done next d rest_is next_is due so_far one =
      let P : List A → Type 0 = λ l. Leads Shows all l so_far.asks done in
      let Q : List D → Type 0 = λ l. Leads Shows all behind (so_far.asks ++ one.asks) l in
      record {
        asks = so_far.asks ++ one.asks;
        asked = asks_join Answers before mid after so_far.asks one.asks so_far.asked one.asked;
        meant = (
          subst Q (sym next_is) (leads_on Shows all behind x so_far.asks one.asks done d (subst P rest_is so_far.meant.0) one.meant),
          due_next before mid rest behind x done rest_is so_far one.asks (due one.asks one.meant),
        );
      }

  -- the next one can't be shown, or there is no memory for it
  pub stops : (memory : E) (before mid after : S) (rest behind : List A) (x : A) (done : List D) (e : E) → rest ≡ x ∷ behind → SoFar before mid rest done
      → ((e ≡ memory) × AsksInVain Answers Lacks (FailsAfter (Shows x)) mid after) ⊎ AsksAnd Answers Lacks mid after (λ (asks : List BodyAsk). Shows x asks (Err e))
      → ((e ≡ memory) × AsksInVain Answers Lacks (FailsAfter (ShowsAll Shows all)) before after)
      ⊎ AsksAnd Answers Lacks before after (λ (asks : List BodyAsk). ShowsAll Shows all asks (Err e))
  stops memory before mid after rest behind x done e rest_is so_far (inl lacks) = inl (
    lacks.0,
    vain_then Answers Lacks (FailsAfter (Shows x)) AllFail before mid after so_far.asks so_far.asked so_far.meant.1
        (fails_next before mid rest behind x done rest_is so_far) lacks.1,
  )
  stops memory before mid after rest behind x done e rest_is so_far (inr one) =
      let P : List A → Type 0 = λ l. Leads Shows all l so_far.asks done in
      inr (record {
        asks = so_far.asks ++ one.asks;
        asked = asks_join Answers before mid after so_far.asks one.asks so_far.asked one.asked;
        meant = leads_nowhere Shows all behind x so_far.asks one.asks done e (subst P rest_is so_far.meant.0) one.meant;
      })

  -- out of memory after one more
  pub lacks_after : (before mid after : S) (rest behind : List A) (x : A) (done : List D) (P : List BodyAsk → Type 0) → rest ≡ x ∷ behind
      → ((asks : List BodyAsk) → P asks → AreDue (FailsAfter (Shows x)) asks) → SoFar before mid rest done → AsksAnd Answers Lacks mid after P
      → AsksInVain Answers Lacks (FailsAfter (ShowsAll Shows all)) before after
  lacks_after before mid after rest behind x done P rest_is due so_far one =
      vain_after Answers Lacks AllFail before after (so_far.asks ++ one.asks) (asks_join Answers before mid after so_far.asks one.asks so_far.asked one.asked)
      (due_next before mid rest behind x done rest_is so_far one.asks (due one.asks one.meant))

  -- all are shown
  pub finishes : (before after : S) (rest : List A) (done : List D) → rest ≡ [] → SoFar before after rest done
      → AsksAnd Answers Lacks before after (λ (asks : List BodyAsk). ShowsAll Shows all asks (Ok done))
  finishes before after rest done none so_far =
      let P : List A → Type 0 = λ l. Leads Shows all l so_far.asks done in
      record { asks = so_far.asks; asked = so_far.asked; meant = leads_to_all Shows all so_far.asks done (subst P none so_far.meant.0) }
