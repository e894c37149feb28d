-- What comes of calls that ask bodies.
use Rattle.std.proofs.Common.{◌≡◌, ◌∙◌, ◌⊎◌, inl, inr, ℕ, List, [], ◌∷◌, Option, Some, None, Result, Ok, Err, refl, sym, ap, subst}
use Rattle.std.specs.Result.{IsErrAnd, IsErrOf}
use Rattle.email_bodies.specs.Asking.{BodyAsk, AreAsked, NoneAsked, OneMore, AreDue, AsksInVain, unanswered}
use Rattle.email_bodies.specs.declared.source.MessagePlace.{MessagePlace}
use Rattle.email_bodies.specs.declared.error.BodyError.{BodyError}
use Rattle.email_bodies.specs.declared.error.BodyError.TheVariants as body
use Rattle.email_bodies.proofs.Joins.{vain_at_once, vain_while, vain_after as vain_after_these, vain_more}
use Rattle.email_get.specs.Asked.{AsksAnd, AsksAndMeets, FailsAfter}

module _ {S : Type 0} (Answers : S → MessagePlace → Option (List ℕ) → S → Type 0) (Lacks : S → MessagePlace → S → Type 0) where
  -- one alone
  pub one_asked : (before after : S) (ask : BodyAsk) → Answers before ask.message ask.body after → AreAsked Answers before (ask ∷ []) after
  one_asked before after ask answers = OneMore ask NoneAsked answers

  -- out of memory after these, of which so much is meant
  pub vain_after : (AreAll P : List BodyAsk → Type 0) (before after : S) → ((asks : List BodyAsk) → P asks → AreDue AreAll asks) → AsksAnd Answers Lacks before after P
      → AsksInVain Answers Lacks AreAll before after
  vain_after AreAll P before after due a = vain_after_these Answers Lacks AreAll before after a.asks a.asked (due a.asks a.meant)

  -- what is said of the asks says more
  pub said_more : (before after : S) (P Q : List BodyAsk → Type 0) → ((asks : List BodyAsk) → P asks → Q asks) → AsksAnd Answers Lacks before after P
      → AsksAnd Answers Lacks before after Q
  said_more before after P Q so a = record { asks = a.asks; asked = a.asked; meant = so a.asks a.meant }

  -- ---- what is meant

  module _ {X Y E : Type 0} (memory : E) (see : X → Y) where
    -- nothing was asked
    pub unasked : (s : S) (x : X) (IsMeant : List BodyAsk → Result Y E → Type 0) → IsMeant [] (Ok (see x)) → AsksAndMeets Answers Lacks s s memory see (Ok x) IsMeant
    unasked s x IsMeant meant = record { asks = []; asked = NoneAsked; meant = meant }

    pub refused_unasked : (s : S) (e : E) (P : Type 0) (IsMeant : List BodyAsk → Result Y E → Type 0) → (P → IsMeant [] (Err e)) → (e ≡ memory) ⊎ P
        → AsksAndMeets Answers Lacks s s memory see (Err e) IsMeant
    refused_unasked s e P IsMeant so (inl lacks) = inl (lacks, vain_at_once Answers Lacks (FailsAfter IsMeant) s)
    refused_unasked s e P IsMeant so (inr refused) = inr (record { asks = []; asked = NoneAsked; meant = so refused })

    -- what is meant of the asks of a part is meant of the whole
    pub given_after : (before after : S) (x : X) (IsMeant : List BodyAsk → Result Y E → Type 0) (P : List BodyAsk → Type 0)
        → ((asks : List BodyAsk) → P asks → IsMeant asks (Ok (see x))) → AsksAnd Answers Lacks before after P
        → AsksAndMeets Answers Lacks before after memory see (Ok x) IsMeant
    given_after before after x IsMeant P so a = record { asks = a.asks; asked = a.asked; meant = so a.asks a.meant }

    pub refused_after : {Z : Type 0} (before after : S) (e : E) (IsMeant : List BodyAsk → Result Y E → Type 0) (OfPart : List BodyAsk → Result Z E → Type 0)
        → ((asks : List BodyAsk) (f : E) → OfPart asks (Err f) → IsMeant asks (Err f))
        → ((e ≡ memory) × AsksInVain Answers Lacks (FailsAfter OfPart) before after) ⊎ AsksAnd Answers Lacks before after (λ (asks : List BodyAsk). OfPart asks (Err e))
        → AsksAndMeets Answers Lacks before after memory see (Err e) IsMeant
    refused_after before after e IsMeant OfPart so (inl lacks) =
        inl (lacks.0, vain_more Answers Lacks (FailsAfter OfPart) (FailsAfter IsMeant) before after (λ asks fails. (fails.0, so asks fails.0 fails.1)) lacks.1)
    refused_after before after e IsMeant OfPart so (inr a) = inr (record { asks = a.asks; asked = a.asked; meant = so a.asks e a.meant })

    -- a body that was asked and didn't come
    pub failed : (from : BodyError → E) (before after : S) (asked message : MessagePlace) (e : BodyError) (f : E) (IsMeant : List BodyAsk → Result Y E → Type 0)
        → asked ≡ message → f ≡ from e → from body.Memory ≡ memory
        → ((let r : Result (List ℕ) BodyError = Err e in IsErrOf r body.Ended) → Answers before asked None after)
        → ((let r : Result (List ℕ) BodyError = Err e in IsErrOf r body.Memory) → Lacks before asked after)
        → IsMeant (unanswered message ∷ []) (Err (from body.Ended))
        → AsksAndMeets Answers Lacks before after memory see (Err f) IsMeant
    failed from before after asked message body.Ended f IsMeant place f_is lacks answers vain meant =
        let P : MessagePlace → Type 0 = λ m. Answers before m None after in
        let Q : E → Type 0 = λ e. IsMeant (unanswered message ∷ []) (Err e) in
        inr (record {
          asks = unanswered message ∷ [];
          asked = one_asked before after (unanswered message) (subst P place (answers refl));
          meant = subst Q (sym f_is) meant;
        })
    failed from before after asked message body.Memory f IsMeant place f_is lacks answers vain meant =
        let P : MessagePlace → Type 0 = λ m. Lacks before m after in
        inl (f_is ∙ lacks, vain_while Answers Lacks (FailsAfter IsMeant) before after message (subst P place (vain refl)) (from body.Ended, meant))

    -- one that came
    pub came : (before after : S) (asked message : MessagePlace) (octets : List ℕ) (x : X) (IsMeant : List BodyAsk → Result Y E → Type 0) → asked ≡ message
        → Answers before asked (Some octets) after → IsMeant (record { message = message; body = Some octets } ∷ []) (Ok (see x))
        → AsksAndMeets Answers Lacks before after memory see (Ok x) IsMeant
    came before after asked message octets x IsMeant place answers meant =
        let P : MessagePlace → Type 0 = λ m. Answers before m (Some octets) after in
        record {
          asks = record { message = message; body = Some octets } ∷ [];
          asked = one_asked before after (record { message = message; body = Some octets }) (subst P place answers);
          meant = meant;
        }

    -- what is meant by more
    pub wider : (before after : S) (r : Result X E) (IsMeant Meant : List BodyAsk → Result Y E → Type 0) → ((asks : List BodyAsk) (y : Result Y E) → IsMeant asks y → Meant asks y)
        → AsksAndMeets Answers Lacks before after memory see r IsMeant → AsksAndMeets Answers Lacks before after memory see r Meant
    wider before after (Ok x) IsMeant Meant so a = given_after before after x Meant (λ asks. IsMeant asks (Ok (see x))) (λ asks. so asks (Ok (see x))) a
    wider before after (Err e) IsMeant Meant so a = refused_after before after e Meant IsMeant (λ asks f. so asks (Err f)) a

    -- ---- errors that are passed on

    -- out of memory
    pub lacks_memory : (before after : S) (r : Result X E) (IsMeant : List BodyAsk → Result Y E → Type 0) → IsErrAnd r (λ e. e ≡ memory)
        → AsksInVain Answers Lacks (FailsAfter IsMeant) before after → AsksAndMeets Answers Lacks before after memory see r IsMeant
    lacks_memory before after (Ok x) IsMeant is vain = absurd is
    lacks_memory before after (Err e) IsMeant is vain = inl (is, vain)

    -- as it is
    pub same_error : (before after : S) (r : Result X E) (e : E) (IsMeant : List BodyAsk → Result Y E → Type 0) → IsErrAnd r (λ f. f ≡ e)
        → ((e ≡ memory) × AsksInVain Answers Lacks (FailsAfter IsMeant) before after) ⊎ AsksAnd Answers Lacks before after (λ (asks : List BodyAsk). IsMeant asks (Err e))
        → AsksAndMeets Answers Lacks before after memory see r IsMeant
    same_error before after (Ok x) e IsMeant is a = absurd is
    same_error before after (Err f) e IsMeant is a =
        let P : E → Type 0 = λ g. ((g ≡ memory) × AsksInVain Answers Lacks (FailsAfter IsMeant) before after)
        ⊎ AsksAnd Answers Lacks before after (λ (asks : List BodyAsk). IsMeant asks (Err g)) in
        subst P (sym is) a

  -- an error that is turned into another one
  pub turned : {Y Z E F : Type 0} (m : E) (n : F) (from : E → F) (before after : S) (e : E) (f : F) (OfPart : List BodyAsk → Result Z E → Type 0)
      (IsMeant : List BodyAsk → Result Y F → Type 0) → f ≡ from e → from m ≡ n
      → ((asks : List BodyAsk) (e : E) (f : F) → f ≡ from e → OfPart asks (Err e) → IsMeant asks (Err f))
      → ((e ≡ m) × AsksInVain Answers Lacks (FailsAfter OfPart) before after) ⊎ AsksAnd Answers Lacks before after (λ (asks : List BodyAsk). OfPart asks (Err e))
      → ((f ≡ n) × AsksInVain Answers Lacks (FailsAfter IsMeant) before after) ⊎ AsksAnd Answers Lacks before after (λ (asks : List BodyAsk). IsMeant asks (Err f))
  turned m n from before after e f OfPart IsMeant f_is m_is so (inl lacks) = inl (
    f_is ∙ ap from lacks.0 ∙ m_is,
    vain_more Answers Lacks (FailsAfter OfPart) (FailsAfter IsMeant) before after (λ asks fails. (from fails.0, so asks fails.0 (from fails.0) refl fails.1)) lacks.1,
  )
  turned m n from before after e f OfPart IsMeant f_is m_is so (inr a) =
      inr (said_more before after (λ (asks : List BodyAsk). OfPart asks (Err e)) (λ (asks : List BodyAsk). IsMeant asks (Err f)) (λ asks. so asks e f f_is) a)
