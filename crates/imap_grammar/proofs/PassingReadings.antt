-- The symbols of a text take its octets and no more, where what follows ends it.
use Rattle.std.proofs.Common.{◌≡◌, ℕ, zero, suc, ◌+◌, ◌-◌, ◌<◌, ◌≤◌, min, Bool, true, not, ◌||◌, List, [], ◌∷◌, ◌++◌, length, drop, get_or, cond, Option, Some, None, inl, inr}
use Rattle.std.proofs.Common.{refl}
use Rattle.std.proofs.Common.{sym, ap, subst, ◌∙◌, arith}
use Rattle.std.proofs.Math.Nat.{min-le_left, min-le_right}
use Rattle.std.proofs.lemmas.Bool.{cond-false, cases_lt}
use Rattle.std.proofs.lemmas.List.{append-nil, drop_min, length-drop, get_or-drop}
use Rattle.imap_automaton.specs.declared.sym.Sym.{Sym}
use Rattle.imap_automaton.specs.Flow.{ends_open, begins, stops, sym_left, with_left}
use Rattle.imap_automaton.specs.Langs.{Lang, InTurn}
use Rattle.imap_automaton.specs.Responses.{responses}
use Rattle.imap_automaton.specs.ItemRules.{item_start}
use Rattle.imap_automaton.proofs.Edges.{empty_may, ends_by, begin_no_yield}
use Rattle.imap_automaton.proofs.Kept.{yield_open}
use Rattle.imap_automaton.proofs.Lawful.{responses_lawful}
use Rattle.imap_grammar.specs.reading.Passing.{beyond, passed}
use Rattle.imap_types.specs.Texts.{plain_of, plain_octets}
use Rattle.pushdown.specs.declared.moves.Move.{Move}
use Rattle.pushdown.specs.Run.{moved, step, inside, inside_top, mark, inside_left, skipped}
use Rattle.pushdown.specs.Flow.{room, first_begins, Good, Room}
use Rattle.pushdown.proofs.Lists.{no_append}
use Rattle.pushdown.proofs.Whole.{keeps, room_keeps, good_fits, forth, open_begins}
use Rattle.pushdown.proofs.Marks.{forced}
use Rattle.pushdown.proofs.Skipping.{step_inside, skipped_zero}

-- ---- octets of a literal at once

-- octets of a literal that aren't its last
passed_inside : (b : List ℕ) (s : Sym) (n k : ℕ) (ss : List Sym) → ((i : ℕ) → get_or b i 0 < 256) → k ≤ length b → k < n → sym_left s ≡ n
    → passed b (s ∷ ss) ≡ passed (drop k b) (with_left s (n - k) ∷ ss) + k
unfolding passed
passed_inside b s n zero ss h le lt at =
    let count : n - 0 ≡ sym_left s = omega (arith, at) in
    let same : with_left s (n - 0) ≡ s = ap (with_left s) count ∙ responses_lawful.with_same s in
    let e = ap (λ (q : Sym). passed b (q ∷ ss)) same in
    omega (arith, e)
passed_inside [] s n (suc k) ss h le lt at = absurd (omega (arith, le))
passed_inside (c ∷ b) s n (suc k) ss h le lt at =
    let next : Sym = with_left s (sym_left s - 1) in
    let one = step_inside responses responses_lawful s c ss (h 0) (omega (arith, lt, at)) in
    let here : passed (c ∷ b) (s ∷ ss) ≡ passed b (next ∷ ss) + 1 = ap (λ (o : Option (List Sym)). beyond o (passed b)) one in
    let left : sym_left next ≡ n - 1 = responses_lawful.left_with s (sym_left s - 1) (omega (arith, lt, at)) ∙ ap (λ (m : ℕ). m - 1) at in
    let on = passed_inside b next (n - 1) k ss (λ i. h (suc i)) (omega (arith, le)) (omega (arith, lt)) left in
    let count : n - 1 - k ≡ n - suc k = omega arith in
    let same : with_left next (n - 1 - k) ≡ with_left s (n - suc k) = responses_lawful.with_with s (sym_left s - 1) (n - 1 - k) ∙ ap (with_left s) count in
    let there = ap (λ (q : Sym). passed (drop k b) (q ∷ ss)) same in
    omega (arith, here, on, there)

-- the symbols that read the rest of the octets
pub record PassedTo (b rest : List ℕ) (ss : List Sym) : Type 0 where
  pub good : Good responses true ss
  pub room : Room responses ss
  pub small : (i : ℕ) → get_or rest i 0 < 256
  pub short : length rest ≤ length b
  pub same : passed rest ss + length b ≡ passed b (item_start ∷ []) + length rest

within : (s : Sym) (k : ℕ) (ss : List Sym) → k < sym_left s → Good responses true (s ∷ ss) → Good responses true (with_left s (sym_left s - k) ∷ ss)
within s k ss lt good = (
  responses_lawful.with_fits s (sym_left s - k) good.0 (omega (arith, lt)) (omega arith),
  subst (λ (o : Bool). (not o || first_begins responses true ss) ≡ true) (sym (responses_lawful.with_open s (sym_left s - k))) good.1,
  good.2,
)

room_within : (s : Sym) (k : ℕ) (ss : List Sym) → Room responses (s ∷ ss) → Room responses (with_left s (sym_left s - k) ∷ ss)
room_within s k ss h = (subst (λ (n : ℕ). n + length ss ≤ room) (sym (responses_lawful.with_need s (sym_left s - k))) h.0, h.1)

skip_some : (b rest octets : List ℕ) (s : Sym) (ss : List Sym) (k : ℕ) → PassedTo b rest (s ∷ ss) → k < sym_left s → k ≤ length rest → drop k rest ≡ octets
    → PassedTo b octets (with_left s (sym_left s - k) ∷ ss)
skip_some b rest octets s ss k at lt le back =
    let long : length octets ≡ length rest - k = ap (λ (u : List ℕ). length u) (sym back) ∙ length-drop k rest in
    let on = passed_inside rest s (sym_left s) k ss at.small le lt refl in
    let there = ap (λ (u : List ℕ). passed u (with_left s (sym_left s - k) ∷ ss)) back in
    record {
      good = within s k ss lt at.good;
      room = room_within s k ss at.room;
      small = λ i. subst (λ (m : ℕ). m < 256) (sym (get_or-drop k rest i 0) ∙ ap (λ (u : List ℕ). get_or u i 0) back) (at.small (k + i));
      short = omega (arith, long, at.short);
      same = omega (arith, on, there, long, le, at.same);
    }

-- octets of the literal at hand, but for its last, may be passed over at once
pub skip_to : (b rest octets : List ℕ) (ss left : List Sym) → PassedTo b rest ss → octets ≡ drop (inside_left responses ss - 1) rest
    → left ≡ skipped responses (min (inside_left responses ss - 1) (length rest)) ss → PassedTo b octets left
skip_to b rest octets [] left at e f = subst (PassedTo b octets) (sym f) (subst (λ (u : List ℕ). PassedTo b u []) (sym e) at)
skip_to b rest octets (s ∷ ss) left at e f =
    let n : ℕ = sym_left s in
    let k : ℕ = min (n - 1) (length rest) in
    let least : k ≤ n - 1 = min-le_left (n - 1) (length rest) in
    let le : k ≤ length rest = min-le_right (n - 1) (length rest) in
    let back : drop k rest ≡ octets = drop_min (n - 1) rest ∙ sym e in
    subst (PassedTo b octets) (sym f) (elim (cases_lt 0 n) [
      | inl some ↦ skip_some b rest octets s ss k at (omega (arith, some, least)) le back
      | inr none ↦
          let zero_k : k ≡ 0 = omega (arith, none, least) in
          let kept : skipped responses k (s ∷ ss) ≡ s ∷ ss = ap (λ (m : ℕ). skipped responses m (s ∷ ss)) zero_k ∙ skipped_zero responses responses_lawful (s ∷ ss) in
          let whole : rest ≡ octets = sym (ap (λ (m : ℕ). drop m rest) zero_k) ∙ back in
          subst (PassedTo b octets) (sym kept) (subst (λ (u : List ℕ). PassedTo b u (s ∷ ss)) whole at)
    ])

-- ---- an octet

-- a step with the octet as it stands in a text
pub marked_step : (ss : List Sym) (c : ℕ) (inside : Bool) (marked : ℕ) (took : Bool) (next : Option (List Sym)) → inside ≡ inside_top responses ss → marked ≡ cond inside
    (c + 256) c
    → step responses ss marked ≡ cond took next None → step responses ss (mark responses ss c) ≡ cond took next None
marked_step ss c inside marked took next e f g = ap (step responses ss) (ap (λ (b : Bool). cond b (c + 256) c) (sym e) ∙ sym f) ∙ g

beyond_more : (left : List Sym) (more : List Sym → ℕ) → (left ≡ [] → ⊥) → beyond (Some left) more ≡ more left + 1
beyond_more [] more ne = absurd (ne refl)
beyond_more (s ∷ ss) more ne = refl

passed_at : (rest after : List ℕ) (c : ℕ) (ss : List Sym) (next : Option (List Sym)) → rest ≡ c ∷ after → step responses ss (mark responses ss c) ≡ next
    → passed rest ss ≡ beyond next (passed after)
unfolding passed
passed_at rest after c ss next e f = ap (λ (u : List ℕ). passed u ss) e ∙ ap (λ (o : Option (List Sym)). beyond o (passed after)) f

-- the octets end within the item
pub passed_all : (b rest : List ℕ) (ss : List Sym) → PassedTo b rest ss → length rest ≡ 0 → length b ≡ passed b (item_start ∷ [])
unfolding passed
passed_all b [] ss at e = let none : passed [] ss ≡ 0 = refl in omega (arith, none, at.same)
passed_all b (c ∷ rest) ss at e = absurd (omega (arith, e))

-- an octet that the item doesn't go on with
pub passed_before : (b rest after : List ℕ) (c : ℕ) (ss : List Sym) → PassedTo b rest ss → rest ≡ c ∷ after → step responses ss (mark responses ss c) ≡ None
    → length b - length rest ≡ passed b (item_start ∷ [])
passed_before b rest after c ss at e f = let none = passed_at rest after c ss None e f in omega (arith, none, at.same)

-- the item's last octet
pub passed_with : (b rest after : List ℕ) (c : ℕ) (ss left : List Sym) → PassedTo b rest ss → rest ≡ c ∷ after → step responses ss (mark responses ss c) ≡ Some left → left ≡ []
    → length b - length after ≡ passed b (item_start ∷ [])
passed_with b rest after c ss left at e f none =
    let one = passed_at rest after c ss (Some []) e (f ∙ ap (λ (l : List Sym). Some l) none) in
    let long = ap (λ (u : List ℕ). length u) e in
    omega (arith, one, long, at.same)

-- an octet that the item goes on with, and doesn't end with, is passed over
pub passed_on : (b rest after : List ℕ) (c : ℕ) (ss left : List Sym) → PassedTo b rest ss → rest ≡ c ∷ after → step responses ss (mark responses ss c) ≡ Some left → (left ≡ [] → ⊥)
    → PassedTo b after left
passed_on b rest after c ss left at e f ne =
    let more = passed_at rest after c ss (Some left) e f ∙ beyond_more left (passed after) ne in
    let long = ap (λ (u : List ℕ). length u) e in
    record {
      good = keeps responses responses_lawful true ss (mark responses ss c) left at.good f;
      room = room_keeps responses responses_lawful ss (mark responses ss c) left (good_fits responses responses_lawful true ss at.good) at.room f;
      small = λ i. subst (λ (m : ℕ). m < 256) (ap (λ (u : List ℕ). get_or u (suc i) 0) e) (at.small (suc i));
      short = omega (arith, long, at.short);
      same = omega (arith, more, long, at.same);
    }

-- ---- where a text ends

-- the last symbol ends before an octet that ends those
last_ends : (s : Sym) (c : ℕ) → Good responses true (s ∷ []) → Lang s [] → stops c ≡ true → step responses (s ∷ []) (mark responses (s ∷ []) c) ≡ None
last_ends s c good h e =
    let may = empty_may s good.0 h in
    let plain_octet : mark responses (s ∷ []) c ≡ c = cond-false (inside responses s) (c + 256) c (responses_lawful.open_outside s (yield_open s may)) in
    ap (step responses (s ∷ [])) plain_octet ∙ ap (λ (m : Move Sym). moved m [] (step responses [] c)) (ends_by s c may h e)

no_more : (s p : Sym) (ss : List Sym) → Good responses true (s ∷ p ∷ ss) → Lang s [] → InTurn (p ∷ ss) [] → ⊥
no_more s p ss good h k =
    let may = empty_may s good.0 h in
    let b : begins p ≡ true = open_begins (ends_open s) (begins p) good.1 (yield_open s may) in
    let n = no_append k.front k.back k.whole in
    begin_no_yield p b (empty_may p good.2.0 (subst (Lang p) n.0 k.first))

ends_at : (s : Sym) (ss : List Sym) (c : ℕ) → Good responses true (s ∷ ss) → InTurn (s ∷ ss) [] → stops c ≡ true → step responses (s ∷ ss) (mark responses (s ∷ ss) c) ≡ None
ends_at s [] c good h e = let n = no_append h.front h.back h.whole in last_ends s c good (subst (Lang s) n.0 h.first) e
ends_at s (p ∷ ss) c good h e = let n = no_append h.front h.back h.whole in absurd (no_more s p ss good (subst (Lang s) n.0 h.first) (subst (InTurn (p ∷ ss)) n.1 h.second))

empty_passed : (s : Sym) (ss : List Sym) (back : List ℕ) → Good responses true (s ∷ ss) → InTurn (s ∷ ss) [] → stops (get_or back 0 0) ≡ true → passed back (s ∷ ss) ≡ 0
unfolding passed
empty_passed s ss [] good h e = refl
empty_passed s ss (c ∷ back) good h e = ap (λ (o : Option (List Sym)). beyond o (passed back)) (ends_at s ss c good h e)

-- symbols take all octets of a text that they read, and no more, where a space, `)` or CR follows
pub text_passed : (t : List ℕ) (s : Sym) (ss : List Sym) (back : List ℕ) → Good responses true (s ∷ ss) → InTurn (s ∷ ss) t → stops (get_or back 0 0) ≡ true
    → passed (plain_octets t ++ back) (s ∷ ss) ≡ length t
unfolding passed
text_passed [] s ss back good h e = empty_passed s ss back good h e
text_passed (d ∷ u) s ss back good h e =
    let l = forth responses responses_lawful true (s ∷ ss) d u good h in
    let octet : mark responses (s ∷ ss) (plain_of d) ≡ d = sym (forced responses responses_lawful true (s ∷ ss) l.left d good l.by) in
    let rest : List ℕ = plain_octets u ++ back in
    ap (λ (n : ℕ). beyond (step responses (s ∷ ss) n) (passed rest)) octet ∙ ap (λ (o : Option (List Sym)). beyond o (passed rest)) l.by
    ∙ on l.left (keeps responses responses_lawful true (s ∷ ss) d l.left good l.by) l.reads (λ q qs g k. text_passed u q qs back g k e)
  where
    on : (left : List Sym) → Good responses true left → InTurn left u
        → ((q : Sym) (qs : List Sym) → Good responses true (q ∷ qs) → InTurn (q ∷ qs) u → passed (plain_octets u ++ back) (q ∷ qs) ≡ length u)
        → beyond (Some left) (passed (plain_octets u ++ back)) ≡ length (d ∷ u)
    on [] g k ih = let n = ap length k in omega (arith, n)
    on (q ∷ qs) g k ih = let n = ih q qs g k in omega (arith, n)

start_good : Good responses true (item_start ∷ [])
start_good = (refl, refl, tt)

-- an item takes all octets of its text, and no more, where a space, `)` or CR follows
pub item_passed : (t back b : List ℕ) → Lang item_start t → stops (get_or back 0 0) ≡ true → b ≡ plain_octets t ++ back → passed b (item_start ∷ []) ≡ length t
item_passed t back b h e f =
    ap (λ (u : List ℕ). passed u (item_start ∷ [])) f
    ∙ text_passed t item_start [] back start_good (record { front = t; back = []; whole = sym (append-nil t); first = h; second = refl }) e
