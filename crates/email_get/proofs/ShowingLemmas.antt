-- Things that are shown one after another.
use Rattle.std.proofs.Common.{◌≡◌, ◌∙◌, List, [], ◌∷◌, ◌++◌, append-nil, append_assoc, Result, Ok, Err, refl, sym, ap, subst}
use Rattle.std.proofs.lemmas.List.{append_cancel_left}
use Rattle.email_bodies.specs.Asking.{BodyAsk}
use Rattle.email_get.specs.Showing.{with_shown, ShowsAll, NoneLeft, OneShown, OneFails}

-- these, and then what comes of the rest
abbrev pub behind : {D E : Type 0} → List D → Result (List D) E → Result (List D) E
behind done (Ok ds) = Ok (done ++ ds)
behind done (Err e) = Err e

module _ {D E : Type 0} where
  behind_none : (r : Result (List D) E) → r ≡ behind [] r
  behind_none (Ok ds) = refl
  behind_none (Err e) = refl

  behind_one_more : (done : List D) (d : D) (r : Result (List D) E) → behind done (with_shown d r) ≡ behind (done ++ d ∷ []) r
  behind_one_more done d (Ok ds) = ap (λ (l : List D). let r : Result (List D) E = Ok l in r) (sym (append_assoc done (d ∷ []) ds))
  behind_one_more done d (Err e) = refl

module _ {A D E : Type 0} (Shows : A → List BodyAsk → Result D E → Type 0) where
  -- what comes of the rest tells what comes of all, where so much was asked and is done
  abbrev pub Leads : List A → List A → List BodyAsk → List D → Type 0
  Leads all rest asks done = (more : List BodyAsk) (r : Result (List D) E) → ShowsAll Shows rest more r → ShowsAll Shows all (asks ++ more) (behind done r)

  pub leads_at_first : (all : List A) → Leads all all [] []
  leads_at_first all = λ more r shows. let P : Result (List D) E → Type 0 = λ s. ShowsAll Shows all more s in subst P (behind_none r) shows

  -- one more is shown
  pub leads_on : (all rest : List A) (x : A) (asks more : List BodyAsk) (done : List D) (d : D) → Leads all (x ∷ rest) asks done → Shows x more (Ok d)
      → Leads all rest (asks ++ more) (done ++ d ∷ [])
  leads_on all rest x asks more done d leads shows = λ further r rest_shows.
      let P : List BodyAsk → Type 0 = λ l. ShowsAll Shows all l (behind (done ++ d ∷ []) r) in
      let Q : Result (List D) E → Type 0 = λ s. ShowsAll Shows all (asks ++ (more ++ further)) s in
      subst P (sym (append_assoc asks more further)) (subst Q (behind_one_more done d r) (leads (more ++ further) (with_shown d r) (OneShown x d shows rest_shows)))

  -- the next one can't be
  pub leads_nowhere : (all rest : List A) (x : A) (asks more : List BodyAsk) (done : List D) (e : E) → Leads all (x ∷ rest) asks done → Shows x more (Err e)
      → ShowsAll Shows all (asks ++ more) (Err e)
  leads_nowhere all rest x asks more done e leads shows = leads more (Err e) (OneFails x rest e shows)

  -- all are
  pub leads_to_all : (all : List A) (asks : List BodyAsk) (done : List D) → Leads all [] asks done → ShowsAll Shows all asks (Ok done)
  leads_to_all all asks done leads =
      let P : List BodyAsk → Type 0 = λ l. ShowsAll Shows all l (Ok done) in
      let Q : List D → Type 0 = λ l. ShowsAll Shows all (asks ++ []) (Ok l) in
      subst P (append-nil asks) (subst Q (append-nil done) (leads [] (Ok []) NoneLeft))

  -- ---- one answer

  -- what is asked for a thing, and what comes of it, are one, whatever is asked later
  abbrev pub IsOne : A → Type 0
  IsOne x = (asks more also later : List BodyAsk) (r s : Result D E) → Shows x asks r → Shows x also s → asks ++ more ≡ also ++ later → (asks ≡ also) × (r ≡ s)

  -- so they are for all things
  pub one_showing : ((x : A) → IsOne x) → (xs : List A) (asks more also later : List BodyAsk) (r s : Result (List D) E)
      → ShowsAll Shows xs asks r → ShowsAll Shows xs also s → asks ++ more ≡ also ++ later → (asks ≡ also) × (r ≡ s)
  one_showing one _ _ more _ later _ _ NoneLeft NoneLeft is = (refl, refl)
  one_showing one _ _ more _ later _ _ (OneShown {xs = xs} {asks = a} {more = m} {rest = r} x d first rest) (OneShown {asks = b} {more = n} {rest = s} _ e other others) is =
      let behind_them : a ++ (m ++ more) ≡ b ++ (n ++ later) = sym (append_assoc a m more) ∙ is ∙ append_assoc b n later in
      let heads = one x a (m ++ more) b (n ++ later) (Ok d) (Ok e) first other behind_them in
      let same_behind : b ++ (m ++ more) ≡ b ++ (n ++ later) = ap (λ (l : List BodyAsk). l ++ (m ++ more)) (sym heads.0) ∙ behind_them in
      let tails = one_showing one xs m more n later r s rest others (append_cancel_left b (m ++ more) (n ++ later) same_behind) in
      let d_is : Ok d ≡ Ok e = heads.1 in
      let same : d ≡ e = cc in (
        ap (λ (l : List BodyAsk). l ++ m) heads.0 ∙ ap (λ (l : List BodyAsk). b ++ l) tails.0,
        ap (λ (f : D). with_shown f r) same ∙ ap (with_shown e) tails.1,
      )
  one_showing one _ _ more _ later _ _ (OneShown {asks = a} {more = m} x d first rest) (OneFails {asks = b} _ _ e other) is =
      let heads = one x a (m ++ more) b later (Ok d) (Err e) first other (sym (append_assoc a m more) ∙ is) in
      absurd (let never : Ok d ≡ Err e = heads.1 in cc)
  one_showing one _ _ more _ later _ _ (OneFails {asks = a} x _ e first) (OneShown {asks = b} {more = n} _ d other others) is =
      let heads = one x a more b (n ++ later) (Err e) (Ok d) first other (is ∙ append_assoc b n later) in
      absurd (let never : Err e ≡ Ok d = heads.1 in cc)
  one_showing one _ _ more _ later _ _ (OneFails {asks = a} x _ e first) (OneFails {asks = b} _ _ f other) is =
      let heads = one x a more b later (Err e) (Err f) first other is in
      let e_is : Err e ≡ Err f = heads.1 in
      let same : e ≡ f = cc in
      (heads.0, ap (λ (g : E). let r : Result (List D) E = Err g in r) same)
