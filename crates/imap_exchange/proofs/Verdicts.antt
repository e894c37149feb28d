-- Octets have one verdict on an exchange.
use Rattle.std.proofs.Common.{◌≡◌, ◌≢◌, ◌⊎◌, ◌<◌, ◌≤◌, ◌++◌, ◌+◌, ℕ, List, [], ◌∷◌, length, refl, sym, ◌∙◌, ap, subst, append_assoc, length-append, arith, inl, inr, All}
use Rattle.std.proofs.lemmas.List.Elements.{All-nil, All-cons, All-head, All-tail, All-append}
use Rattle.imap_types.specs.declared.code.Code.{Code}
use Rattle.imap_types.specs.declared.response.Response.{Response}
use Rattle.imap_types.specs.declared.response.Response.TheVariants.{Tagged, Untagged}
use Rattle.imap_types.specs.declared.response.Status.{Status}
use Rattle.imap_types.specs.declared.response.Status.TheVariants as status
use Rattle.imap_types.specs.Spells.{IsSpelling}
use Rattle.imap_grammar.specs.Scan.{ScanOf}
use Rattle.imap_grammar.specs.declared.answer.Scan.TheVariants as scan
use Rattle.imap_grammar.proofs.Spellings.{need_more_none, bad_none, spelling_some, one_answer}
use Rattle.imap_exchange.specs.Begins.{Begins}
use Rattle.imap_exchange.specs.Exchanges.{IsOpen, Passes, continuations, AreAllDue, Verdict, Done, Stray, Bye, BadAt, Open, EndsExchange, Decides, IsVerdict}
use Rattle.imap_exchange.proofs.Fronts.{same_front}

-- ---- responses at the front of octets

-- more responses after some
pub Begins-append : (vs ws : List Response) (r s b : List ℕ) → Begins vs r b → Begins ws s r → Begins (vs ++ ws) s b
Begins-append [] ws r s b first second = subst (λ (l : List ℕ). Begins ws s l) (sym first) second
Begins-append (v ∷ vs) ws r s b (text, more, spells, is, rest) second = (text, more, spells, is, Begins-append vs ws r s more rest second)

-- further octets after
pub Begins-more : (vs : List Response) (r b g : List ℕ) → Begins vs r b → Begins vs (r ++ g) (b ++ g)
Begins-more [] r b g is = ap (λ (l : List ℕ). l ++ g) is
Begins-more (v ∷ vs) r b g (text, more, spells, is, rest) =
    (text, more ++ g, spells, ap (λ (l : List ℕ). l ++ g) is ∙ append_assoc text more g, Begins-more vs r more g rest)

-- open responses at the front of octets are at their front when further octets come
pub Passes-more : {vs : List Response} {r b : List ℕ} (g : List ℕ) → Passes vs r b → Passes vs (r ++ g) (b ++ g)
Passes-more {vs} {r} {b} g so = record { all_open = so.all_open; spelled = Begins-more vs r b g so.spelled }

-- one open response more
pub Passes-push : {vs : List Response} {r b s : List ℕ} (w : Response) → Passes vs r b → IsOpen w → Begins (w ∷ []) s r → Passes (vs ++ w ∷ []) s b
Passes-push {vs} {r} {b} {s} w so here remaining =
    record {
      all_open = All-append IsOpen vs (w ∷ []) so.all_open (All-cons IsOpen w [] here (All-nil IsOpen));
      spelled = Begins-append vs (w ∷ []) r s b so.spelled remaining;
    }

-- what stands after is no longer, and shorter where a response stands before it
pub Begins-length : (vs : List Response) (r b : List ℕ) → Begins vs r b → length r ≤ length b
Begins-length [] r b is = omega (arith, ap length is)
Begins-length (v ∷ vs) r b (text, more, spells, is, rest) = omega (arith, Begins-length vs r more rest, ap length is, length-append text more)

-- what stands before it, and what stands after
pub Begins-parts : (vs : List Response) (r b : List ℕ) → Begins vs r b → (front : List ℕ) × (b ≡ front ++ r)
Begins-parts [] r b is = ([], is)
Begins-parts (v ∷ vs) r b (text, more, spells, is, rest) =
    let later = Begins-parts vs r more rest in (text ++ later.0, is ∙ ap (λ (l : List ℕ). text ++ l) later.1 ∙ sym (append_assoc text later.0 r))

-- what stands after a response is shorter than what begins with it
pub Begins-shorter : (v : Response) (r b : List ℕ) → Begins (v ∷ []) r b → length r < length b
Begins-shorter v r b (text, more, spells, is, remaining) = omega (arith, some text (spelling_some v text spells), ap length is, ap length remaining, length-append text more)
  where
    some : (t : List ℕ) → t ≢ [] → 0 < length t
    some [] never = absurd (never refl)
    some (c ∷ t) there = omega arith

-- no open response begins the octets
abbrev pub NoneOpen : List ℕ → Type 0
NoneOpen octets = (v : Response) (text more : List ℕ) → IsSpelling v text → octets ≡ text ++ more → IsOpen v → ⊥

-- the open responses at the front, up to where none begins
pub same_pass : (vs ws : List Response) (r s b : List ℕ) → All IsOpen vs → All IsOpen ws → Begins vs r b → Begins ws s b → NoneOpen r → NoneOpen s → (vs ≡ ws) × (r ≡ s)
same_pass [] [] r s b open_v open_w is is' none none' = (refl, sym is ∙ is')
same_pass [] (w ∷ ws) r s b open_v open_w is (text, more, spells, is', remaining) none none' =
    absurd (none w text more spells (sym is ∙ is') (All-head IsOpen w ws open_w))
same_pass (v ∷ vs) [] r s b open_v open_w (text, more, spells, is, remaining) is' none none' =
    absurd (none' v text more spells (sym is' ∙ is) (All-head IsOpen v vs open_v))
same_pass (v ∷ vs) (w ∷ ws) r s b open_v open_w (text, more, spells, is, remaining) (text', more', spells', is', remaining') none none' =
    let front = same_front spells spells' (sym is ∙ is') in
    let rest = same_pass vs ws r s more (All-tail IsOpen v vs open_v) (All-tail IsOpen w ws open_w) remaining
    (subst (λ (l : List ℕ). Begins ws s l) (sym front.2) remaining') none none' in
    ((λ i. front.0 i ∷ rest.0 i), rest.1)

-- where a response begins that isn't open, no open one does
closed : (w : Response) (s r : List ℕ) → (IsOpen w → ⊥) → Begins (w ∷ []) s r → NoneOpen r
closed w s r shut (text, more, spells, is, remaining) v text' more' spells' is' here =
    shut (subst IsOpen (same_front spells' spells (sym is' ∙ is)).0 here)

-- what a verdict is decided by begins with no open response
pub none_open : (tag : List ℕ) (pieces : List (List ℕ)) (octets : List ℕ) (vs : List Response) (r : List ℕ) (v : Verdict) → Decides tag pieces octets vs r v → NoneOpen r
none_open tag pieces octets vs r (Done before s code rest) (same, begins, settles) = closed (Tagged tag s code) rest r (λ never. never) begins
none_open tag pieces octets vs r Stray (other, s, code, rest, begins, why) = closed (Tagged other s code) rest r (λ never. never) begins
none_open tag pieces octets vs r Bye (code, rest, begins) = closed (Untagged status.Bye code) rest r (λ never. never) begins
none_open tag pieces octets vs r (BadAt at) (place, so, is) = λ v text more spells whole here. bad_none r place so v text more spells whole
none_open tag pieces octets vs r Open so = λ v text more spells whole here. need_more_none r so v text more spells whole

-- ---- one verdict

-- the response at the front
pub first_same : (v w : Response) (s t r : List ℕ) → Begins (v ∷ []) s r → Begins (w ∷ []) t r → (v ≡ w) × (s ≡ t)
first_same v w s t r (text, more, spells, is, remaining) (text', more', spells', is', remaining') =
    let front = same_front spells spells' (sym is ∙ is') in
    (front.0, sym remaining ∙ front.2 ∙ remaining')

tagged_same : (a b : List ℕ) (s t : Status) (k l : Code) → Tagged a s k ≡ Tagged b t l → (a ≡ b) × (s ≡ t) × (k ≡ l)
tagged_same a b s t k l is = (cc, cc, cc)

-- where no response begins
begun_not_bad : (w : Response) (s r : List ℕ) (place : ℕ) → Begins (w ∷ []) s r → ScanOf r (scan.Bad place) → ⊥
begun_not_bad w s r place (text, more, spells, is, remaining) so = bad_none r place so w text more spells is

begun_not_more : (w : Response) (s r : List ℕ) → Begins (w ∷ []) s r → ScanOf r scan.NeedMore → ⊥
begun_not_more w s r (text, more, spells, is, remaining) so = need_more_none r so w text more spells is

bad_not_more : (r : List ℕ) (place : ℕ) → ScanOf r (scan.Bad place) → ScanOf r scan.NeedMore → ⊥
bad_not_more r place bad more = let same : scan.Bad place ≡ scan.NeedMore = one_answer r (scan.Bad place) scan.NeedMore bad more in cc

-- the tagged line that is due is no stray one
done_not_stray : (tag : List ℕ) (pieces : List (List ℕ)) (vs : List Response) (r rest rest' other : List ℕ) (s s' : Status) (code code' : Code) → Begins
    (Tagged tag s code ∷ []) rest r → EndsExchange pieces vs s → Begins (Tagged other s' code' ∷ []) rest' r → (other ≢ tag) ⊎
    ((s' ≡ status.Ok) × (continuations vs + 1 < length pieces)) → ⊥
done_not_stray tag pieces vs r rest rest' other s s' code code' begins settles begins' (inl differs) =
    differs (sym (tagged_same tag other s s' code code' (first_same _ _ rest rest' r begins begins').0).0)
done_not_stray tag pieces vs r rest rest' other s s' code code' begins settles begins' (inr (ok, early)) =
    let same = tagged_same tag other s s' code code' (first_same _ _ rest rest' r begins begins').0 in
    let due : AreAllDue pieces vs = subst (λ (x : Status). EndsExchange pieces vs x) (same.1 ∙ ok) settles in
    omega (arith, due, early)

done_same : (tag : List ℕ) (vs before before' : List Response) (r rest rest' : List ℕ) (s s' : Status) (code code' : Code) → before ≡ vs → before' ≡ vs → Begins
    (Tagged tag s code ∷ []) rest r → Begins (Tagged tag s' code' ∷ []) rest' r → Done before s code rest ≡ Done before' s' code' rest'
done_same tag vs before before' r rest rest' s s' code code' is is' begins begins' =
    let first = first_same _ _ rest rest' r begins begins' in
    let same = tagged_same tag tag s s' code code' first.0 in
    (λ i. Done ((is ∙ sym is') i) (same.1 i) (same.2 i) (first.1 i))

tagged_not_bye : (a : List ℕ) (s : Status) (k l : Code) → Tagged a s k ≡ Untagged status.Bye l → ⊥
tagged_not_bye a s k l is = cc

decides_one : (tag : List ℕ) (pieces : List (List ℕ)) (octets : List ℕ) (vs : List Response) (r : List ℕ) (v w : Verdict) → Decides tag pieces octets vs r v
    → Decides tag pieces octets vs r w → v ≡ w
decides_one tag pieces octets vs r (Done b s k t) (Done b' s' k' t') (is, begins, settles) (is', begins', settles') = done_same tag vs b b' r t t' s s' k k' is is' begins begins'
decides_one tag pieces octets vs r (Done b s k t) Stray (is, begins, settles) (o, s', k', t', begins', why) = absurd
    (done_not_stray tag pieces vs r t t' o s s' k k' begins settles begins' why)
decides_one tag pieces octets vs r (Done b s k t) Bye (is, begins, settles) (k', t', begins') = absurd (tagged_not_bye _ _ _ _ (first_same _ _ t t' r begins begins').0)
decides_one tag pieces octets vs r (Done b s k t) (BadAt at) (is, begins, settles) (place, so, there) = absurd (begun_not_bad _ t r place begins so)
decides_one tag pieces octets vs r (Done b s k t) Open (is, begins, settles) so = absurd (begun_not_more _ t r begins so)
decides_one tag pieces octets vs r Stray (Done b s k t) (o, s', k', t', begins', why) (is, begins, settles) = absurd
    (done_not_stray tag pieces vs r t t' o s s' k k' begins settles begins' why)
decides_one tag pieces octets vs r Stray Stray first second = refl
decides_one tag pieces octets vs r Stray Bye (o, s, k, t, begins, why) (k', t', begins') = absurd (tagged_not_bye _ _ _ _ (first_same _ _ t t' r begins begins').0)
decides_one tag pieces octets vs r Stray (BadAt at) (o, s, k, t, begins, why) (place, so, there) = absurd (begun_not_bad _ t r place begins so)
decides_one tag pieces octets vs r Stray Open (o, s, k, t, begins, why) so = absurd (begun_not_more _ t r begins so)
decides_one tag pieces octets vs r Bye (Done b s k t) (k', t', begins') (is, begins, settles) = absurd (tagged_not_bye _ _ _ _ (first_same _ _ t t' r begins begins').0)
decides_one tag pieces octets vs r Bye Stray (k', t', begins') (o, s, k, t, begins, why) = absurd (tagged_not_bye _ _ _ _ (first_same _ _ t t' r begins begins').0)
decides_one tag pieces octets vs r Bye Bye first second = refl
decides_one tag pieces octets vs r Bye (BadAt at) (k, t, begins) (place, so, there) = absurd (begun_not_bad _ t r place begins so)
decides_one tag pieces octets vs r Bye Open (k, t, begins) so = absurd (begun_not_more _ t r begins so)
decides_one tag pieces octets vs r (BadAt at) (Done b s k t) (place, so, there) (is, begins, settles) = absurd (begun_not_bad _ t r place begins so)
decides_one tag pieces octets vs r (BadAt at) Stray (place, so, there) (o, s, k, t, begins, why) = absurd (begun_not_bad _ t r place begins so)
decides_one tag pieces octets vs r (BadAt at) Bye (place, so, there) (k, t, begins) = absurd (begun_not_bad _ t r place begins so)
decides_one tag pieces octets vs r (BadAt at) (BadAt at') (place, so, there) (place', so', there') = ap BadAt (omega (arith, there, there'))
decides_one tag pieces octets vs r (BadAt at) Open (place, so, there) more = absurd (bad_not_more r place so more)
decides_one tag pieces octets vs r Open (Done b s k t) so (is, begins, settles) = absurd (begun_not_more _ t r begins so)
decides_one tag pieces octets vs r Open Stray so (o, s, k, t, begins, why) = absurd (begun_not_more _ t r begins so)
decides_one tag pieces octets vs r Open Bye so (k, t, begins) = absurd (begun_not_more _ t r begins so)
decides_one tag pieces octets vs r Open (BadAt at) more (place, so, there) = absurd (bad_not_more r place so more)
decides_one tag pieces octets vs r Open Open first second = refl

-- octets have one verdict on an exchange
pub one_verdict : (tag : List ℕ) (pieces : List (List ℕ)) (octets : List ℕ) (v w : Verdict) → IsVerdict tag pieces octets v → IsVerdict tag pieces octets w → v ≡ w
one_verdict tag pieces octets v w first second =
    let same = same_pass first.responses second.responses first.remaining second.remaining octets first.passed.all_open second.passed.all_open first.passed.spelled
    second.passed.spelled (none_open tag pieces octets _ _ v first.decided) (none_open tag pieces octets _ _ w second.decided) in
    let moved : Decides tag pieces octets first.responses second.remaining w = subst (λ (vs : List Response). Decides tag pieces octets vs second.remaining w)
    (sym same.0) second.decided in
    decides_one tag pieces octets first.responses first.remaining v w first.decided (subst (λ (r : List ℕ). Decides tag pieces octets first.responses r w) (sym same.1) moved)
