use Rattle.std.proofs.Common.{◌≡◌, ◌≢◌, ◌<◌, ◌≤◌, ℕ, ◌+◌, List, [], ◌∷◌, ◌++◌, length, drop, cond, Some, None, Option, refl, sym, ap, ◌∙◌, subst, arith}
use Rattle.std.proofs.lemmas.List.{drop_all, drop-map, drop-drop, length-drop, length-map}
use Rattle.text_words.proofs.SequenceLemmas.{Behind, read_more, read_no_more, all_done, unit_within}
use Rattle.header_tokens.specs.declared.token.Token.{Token}
use Rattle.header_tokens.specs.Tokens.{Spelled}
use Rattle.header_addresses.specs.AddressLists.{Element, IsElement}
use Rattle.header_addresses.specs.reading.ElementReading.{element_in, is_filled, Pushes}
use Rattle.header_tokens.specs.TokenView.{token_view, tokens_view}
use Rattle.header_addresses.proofs.ElementLemmas.{element_reader, FilledBehind, more_filled}
use Rattle.header_addresses.proofs.elements.elements.Goals as goal

none_pushed : (o : Option (Element × ℕ)) (old new : List Element) (r : Option ℕ) → Pushes o old new r → r ≡ None → o ≡ None
none_pushed None old new r h e = refl
none_pushed (Some p) old new r h e = absurd (let q = sym h.0 ∙ e in cc)

-- the element that was read, and put at the end
record Pushed (o : Option (Element × ℕ)) (old new : List Element) (n : ℕ) : Type 0 where
  value : Element
  read : o ≡ Some (value, n)
  pushed : new ≡ old ++ cond (is_filled value) (value ∷ []) []

some_pushed : (o : Option (Element × ℕ)) (old new : List Element) (r : Option ℕ) (n : ℕ) → Pushes o old new r → r ≡ Some n → Pushed o old new n
some_pushed None old new r n h e = absurd (let q = sym h ∙ e in cc)
some_pushed (Some p) old new r n h e =
    let q : p.1 ≡ n = let z = sym h.0 ∙ e in cc in
    record { value = p.0; read = ap (λ (m : ℕ). Some (p.0, m)) q; pushed = h.1 }

some_left : (ts : List Token) (at : ℕ) → at < length ts → tokens_view (drop at ts) ≢ []
some_left ts at lt = λ e. absurd (omega (arith, ap length e, length-map (drop at ts) token_view, length-drop at ts))

within : (ts : List Token) (at n : ℕ) (v : Element) → at < length ts → element_in (tokens_view (drop at ts)) ≡ Some (v, n) → at + n ≤ length ts
within ts at n v lt e = let w = unit_within element_in element_reader v n (tokens_view (drop at ts)) e in omega (
  arith,
  w.within,
  length-map
      (drop at ts) token_view,
  length-drop at ts,
)

positive : (ts : List Token) (at n : ℕ) (v : Element) → element_in (tokens_view (drop at ts)) ≡ Some (v, n) → 0 < n
positive ts at n v e = (unit_within element_in element_reader v n (tokens_view (drop at ts)) e).some

walked : (old new : List Element) (at n : ℕ) (ts : List Token) (v : Element) → FilledBehind old (tokens_view (drop at ts)) (tokens_view ts)
    → element_in (tokens_view (drop at ts)) ≡ Some (v, n) → new ≡ old ++ cond (is_filled v) (v ∷ []) [] → FilledBehind new (tokens_view (drop (at + n) ts)) (tokens_view ts)
walked old new at n ts v b e p =
    let m = read_more element_in element_reader b.all v n (tokens_view (drop at ts)) (tokens_view ts) b.read e in
    let d : drop n (tokens_view (drop at ts)) ≡ tokens_view (drop (at + n) ts) = drop-map token_view n (drop at ts) ∙ ap tokens_view (drop-drop n at ts) in
    record {
      all = b.all ++ v ∷ [];
      read = subst (λ (u : List Spelled). Behind IsElement (b.all ++ v ∷ []) u (tokens_view ts)) d m;
      kept_is = more_filled old new b.all v b.kept_is p;
    }

-- of the tokens that are left
pushes_here : (x : List Token) (ts : List Token) (at : ℕ) (old new : List Element) (r : Option ℕ) → x ≡ drop at ts → Pushes (element_in (tokens_view x)) old new r
    → Pushes (element_in (tokens_view (drop at ts))) old new r
pushes_here x ts at old new r e h = subst (λ (u : List Token). Pushes (element_in (tokens_view u)) old new r) e h

pub returns-in-None-clause-none : goal.returns-in-None-clause-none
returns-in-None-clause-none c = λ es s.
    let ts = c.args.tokens.now in
    let at = c.loop-at.at in
    let h = pushes_here c.split_at.result.1.now ts at _ _ c.in_ok-push_element.field-0 c.split_at.ensures.back c.in_ok-push_element.ensures in
    read_no_more element_in element_reader c.loop-at.invariant.read.all (tokens_view (drop at ts)) (tokens_view ts) c.loop-at.invariant.read.read
    (some_left ts at c.loop-at-test.true) (none_pushed _ _ _ _ h c.in-None.is) es s

pub overflow_add-at : goal.overflow_add-at
overflow_add-at c =
    let ts = c.args.tokens.now in
    let at = c.loop-at.at in
    let h = pushes_here c.split_at.result.1.now ts at _ _ c.in_ok-push_element.field-0 c.split_at.ensures.back c.in_ok-push_element.ensures in
    let p = some_pushed _ _ _ _ c.in-Some.len h c.in-Some.is in
    let w = within ts at c.in-Some.len p.value c.loop-at-test.true p.read in
    omega arith

pub loop-at-smaller : goal.loop-at-smaller
loop-at-smaller c =
    let ts = c.args.tokens.now in
    let at = c.loop-at.at in
    let h = pushes_here c.split_at.result.1.now ts at _ _ c.in_ok-push_element.field-0 c.split_at.ensures.back c.in_ok-push_element.ensures in
    let p = some_pushed _ _ _ _ c.in-Some.len h c.in-Some.is in
    let w = within ts at c.in-Some.len p.value c.loop-at-test.true p.read in
    let s = positive ts at c.in-Some.len p.value p.read in
    omega (arith, w, s, c.loop-at-test.true)

pub loop-at-preserved : goal.loop-at-preserved
loop-at-preserved c =
    let ts = c.args.tokens.now in
    let at = c.loop-at.at in
    let h = pushes_here c.split_at.result.1.now ts at _ _ c.in_ok-push_element.field-0 c.split_at.ensures.back c.in_ok-push_element.ensures in
    let p = some_pushed _ _ _ _ c.in-Some.len h c.in-Some.is in
    record {
      within = within ts at c.in-Some.len p.value c.loop-at-test.true p.read;
      read = walked _ _ at c.in-Some.len ts p.value c.loop-at.invariant.read p.read p.pushed;
    }

pub returns-clause-some : goal.returns-clause-some
returns-clause-some c =
    let ts = c.args.tokens.now in
    let b = c.loop-at.invariant.read in
    record {
      all = b.all;
      are = all_done b.all (tokens_view (drop c.loop-at.at ts)) (tokens_view ts) b.read (ap tokens_view (drop_all c.loop-at.at ts (omega arith)));
      kept_is = b.kept_is;
    }
