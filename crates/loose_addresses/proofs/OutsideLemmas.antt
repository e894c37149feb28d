-- The last address in angle brackets outside what else is closed is found lump by lump.
use Rattle.std.proofs.Common.{◌≡◌, eqb-true, eq-eqb, ℕ, ◌+◌, ◌-◌, ◌<◌, ◌≤◌, Bor, true, List, [], ◌∷◌, ◌++◌, length, take, drop, refl, sym, ap, ◌∙◌, subst, arith, append_assoc, take-append-drop, Option, Some, None, MatchOption}
use Rattle.std.proofs.Math.Seq.{take-add}
use Rattle.std.proofs.lemmas.List.{append_cancel_right, length-append, length-drop, take_at, drop_at, drop-drop, drop_all}
use Rattle.header_tokens.specs.Kinds.{first_octet}
use Rattle.header_addresses.specs.Parts.{HasHead}
use Rattle.header_addresses.proofs.PartLemmas.{head_rest, one_head}
use Rattle.loose_addresses.specs.Angles.{NoAngle, IsLastAngle, begins_less, HaveNone, joined, IsLastOf, IsLastOutside, IsAddressAngle, Outside, Anywhere}
use Rattle.loose_addresses.specs.LooseLists.{BeginsGroup}
use Rattle.loose_addresses.specs.Lumps.{is_separator, AreLumpsBefore}
use Rattle.loose_addresses.specs.reading.ElementSteps.{LumpOf, EndsLumps, IsFound, FoundBefore}
use Rattle.loose_addresses.proofs.ElementLemmas.{lumps_text}
use Rattle.loose_addresses.proofs.LooseLemmas.{none_of}
use Rattle.loose_addresses.proofs.LumpLemmas.{Past, one_lump, lump_separator, lumps_len, past, append_lump, one_row}

-- ---- where lumps end

-- what follows a lump
lump_behind : (at n : ℕ) (t : List ℕ) (u : LumpOf n (drop at t)) → u.rest ≡ drop (at + n) t
lump_behind at n t u = sym (sym (drop-drop n at t) ∙ ap (drop n) u.whole ∙ drop_at u.unit u.rest n (sym u.counted))

-- a lump alone
lump_alone : (at n : ℕ) (t : List ℕ) (u : LumpOf n (drop at t)) → AreLumpsBefore (u.unit ∷ []) (drop (at + n) t) (drop at t)
lump_alone at n t u = record { unit = u.unit; rest = u.rest; whole = u.whole; is = u.is; more = lump_behind at n t u }

-- lumps end at the front
pub ends_first : (t : List ℕ) → EndsLumps 0 t
ends_first t = record { lumps = []; are = refl }

-- and behind one lump more
pub ends_more : (at n : ℕ) (t : List ℕ) → EndsLumps at t → LumpOf n (drop at t) → EndsLumps (at + n) t
ends_more at n t e u = record { lumps = e.lumps ++ u.unit ∷ []; are = append_lump e.lumps u.unit (drop at t) (drop (at + n) t) t e.are (lump_alone at n t u) }

-- they end at no place behind a separator
pub not_past_separator : (at place : ℕ) (t : List ℕ) → EndsLumps at t → at < place → place ≤ length t → is_separator (first_octet (drop at t)) ≡ true → EndsLumps place t → ⊥
not_past_separator at place t e lt le s k = by p.more p.are
  where
    p : Past e.lumps k.lumps (drop place t) (drop at t)
    p = past e.lumps k.lumps (drop at t) (drop place t) t e.are k.are (omega (arith, lt, length-drop at t, length-drop place t))

    by : (ms : List (List ℕ)) → AreLumpsBefore ms (drop place t) (drop at t) → ⊥
    by [] h = omega (arith, lt, le, ap length h, length-drop at t, length-drop place t)
    by (m ∷ ms) h = lump_separator m h.unit h.rest (drop at t) h.whole h.is s

-- nor within a lump
pub not_within : (at n place : ℕ) (t : List ℕ) → EndsLumps at t → LumpOf n (drop at t) → at < place → place < at + n → place ≤ length t → EndsLumps place t → ⊥
not_within at n place t e u lt less le k = by p.more p.are
  where
    p : Past e.lumps k.lumps (drop place t) (drop at t)
    p = past e.lumps k.lumps (drop at t) (drop place t) t e.are k.are (omega (arith, lt, length-drop at t, length-drop place t))

    by : (ms : List (List ℕ)) → AreLumpsBefore ms (drop place t) (drop at t) → ⊥
    by [] h = omega (arith, lt, le, ap length h, length-drop at t, length-drop place t)
    by (m ∷ ms) h =
        let o = one_lump (Some m) (Some u.unit) h.unit u.unit h.rest u.rest (sym h.whole ∙ u.whole) h.is u.is in
        omega (arith, less, le, lumps_len ms (drop place t) h.rest h.more, ap length o.rest, u.counted, ap length u.whole, length-append u.unit u.rest, length-drop at t, length-drop place t)

-- ---- a group's beginning

-- what follows it is the text from there on
head_place : (rest t : List ℕ) → HasHead rest t → drop (length t - length rest) t ≡ rest
head_place rest t h =
    let f = head_rest rest t h in
    ap (drop (length t - length rest)) f.1 ∙ drop_at f.0 rest (length t - length rest) (omega (arith, ap length f.1, length-append f.0 rest))

pub head_fits : (rest t : List ℕ) → HasHead rest t → length rest ≤ length t
head_fits rest t h = let f = head_rest rest t h in omega (arith, ap length f.1, length-append f.0 rest)

pub group_here : (rest t : List ℕ) → HasHead rest t → EndsLumps (length t - length rest) t → BeginsGroup rest t
group_here rest t h e = record { head = h; lumps = e.lumps; are = subst (λ (u : List ℕ). AreLumpsBefore e.lumps u t) (head_place rest t h) e.are }

pub group_not : (rest t : List ℕ) → (EndsLumps (length t - length rest) t → ⊥) → BeginsGroup rest t → ⊥
group_not rest t n g = n (record { lumps = g.lumps; are = subst (λ (u : List ℕ). AreLumpsBefore g.lumps u t) (sym (head_place rest t g.head)) g.are })

-- there is no other one
pub group_other : (rest t : List ℕ) (r : Option (Bor (List ℕ))) → HasHead rest t → MatchOption r (BeginsGroup rest t → ⊥) (λ (q : Bor (List ℕ)). BeginsGroup q.now t)
    → MatchOption r ((q : List ℕ) → BeginsGroup q t → ⊥) (λ (q : Bor (List ℕ)). BeginsGroup q.now t)
group_other rest t None h n = λ q g. n (subst (λ (u : List ℕ). BeginsGroup u t) (one_head q rest t g.head h) g)
group_other rest t (Some q) h g = g

-- ---- what is found

-- a lump that doesn't begin with "<" may have any
pub not_less : (t : List ℕ) → (first_octet t ≡ 60 → ⊥) → begins_less t ≡ true → NoAngle t
not_less [] n e = absurd cc
not_less (c ∷ t) n e = absurd (n (eqb-true c 60 e))

is_less : (t : List ℕ) → first_octet t ≡ 60 → begins_less t ≡ true
is_less [] e = absurd (let h : ◌≡◌ {A = ℕ} 0 60 = e in omega (arith, h))
is_less (c ∷ t) e = eq-eqb c 60 e

-- of one that does, the last one is what is found
pub less_told : (t : List ℕ) (r : Option (Bor (List ℕ) × Bor (List ℕ))) → first_octet t ≡ 60
    → MatchOption r (NoAngle t) (λ (q : Bor (List ℕ) × Bor (List ℕ)). (behind : List ℕ) × IsLastAngle q.0.now q.1.now behind t)
    → MatchOption r (begins_less t ≡ true → NoAngle t)
    (λ (q : Bor (List ℕ) × Bor (List ℕ)). (begins_less t ≡ true) × ((behind : List ℕ) × IsLastAngle q.0.now q.1.now behind t))
less_told t None e n = λ b. n
less_told t (Some q) e h = (is_less t e, h)

none_more : (us : List (List ℕ)) (u : List ℕ) → HaveNone us → (begins_less u ≡ true → NoAngle u) → HaveNone (us ++ u ∷ [])
none_more [] u h n = (n, tt)
none_more (v ∷ us) u h n = (h.0, none_more us u h.1 n)

-- a lump without one changes nothing
pub found_still : (found : Option (Bor (List ℕ) × Bor (List ℕ))) (us : List (List ℕ)) (u : List ℕ) → (begins_less u ≡ true → NoAngle u) → IsFound found us → IsFound found (us ++ u ∷ [])
found_still None us u n h = none_more us u h n
found_still (Some r) us u n o = record {
  front = o.front;
  lump = o.lump;
  back = o.back ++ u ∷ [];
  lumps_are = ap (λ (vs : List (List ℕ)). vs ++ u ∷ []) o.lumps_are ∙ append_assoc o.front (o.lump ∷ o.back) (u ∷ []);
  opens = o.opens;
  inner = o.inner;
  behind = o.behind;
  is = o.is;
  before_is = o.before_is;
  none_behind = none_more o.back u o.none_behind n;
}

-- a lump with one has the last one
pub found_here : (us : List (List ℕ)) (text rest lump before inner x behind : List ℕ) (at : ℕ) → drop at text ≡ lump ++ rest → joined us ≡ take at text → begins_less lump ≡ true
    → IsLastAngle inner x behind lump → before ≡ take (at + length inner) text → IsLastOf before x (us ++ lump ∷ [])
found_here us text rest lump before inner x behind at d j b i e = record {
  front = us;
  lump = lump;
  back = [];
  lumps_are = refl;
  opens = b;
  inner = inner;
  behind = behind;
  is = i;
  before_is = e ∙ take-add at (length inner) text ∙ ap (λ (u : List ℕ). u ++ take (length inner) (drop at text)) (sym j)
      ∙ ap (λ (u : List ℕ). joined us ++ u)
      (ap (take (length inner)) (d ∙ ap (λ (u : List ℕ). u ++ rest) i.has.whole ∙ append_assoc inner (60 ∷ (x ++ 62 ∷ behind)) rest)
      ∙ take_at inner ((60 ∷ (x ++ 62 ∷ behind)) ++ rest) (length inner) refl);
  none_behind = tt;
}

-- the place before which it stands is in the text
pub found_fits : (text rest lump inner x behind : List ℕ) (at : ℕ) → drop at text ≡ lump ++ rest → IsLastAngle inner x behind lump → at ≤ length text → at + length inner ≤ length text
found_fits text rest lump inner x behind at d i le =
    omega (arith, le, ap length d, length-append lump rest, ap length i.has.whole, length-append inner (60 ∷ (x ++ 62 ∷ behind)), length-drop at text)

-- nothing is found at the front
pub found_first : (t : List ℕ) → FoundBefore 0 None t
found_first t = record { lumps = []; are = refl; is = tt }

-- lumps up to a place are the text up to there
lumps_take : (us : List (List ℕ)) (at : ℕ) (t : List ℕ) → AreLumpsBefore us (drop at t) t → joined us ≡ take at t
lumps_take us at t h = append_cancel_right (joined us) (take at t) (drop at t) (sym (lumps_text us (drop at t) t h) ∙ sym (take-append-drop at t))

-- one lump on
pub found_more : (found new : Option (Bor (List ℕ) × Bor (List ℕ))) (at n : ℕ) (t lump : List ℕ) → FoundBefore at found t → LumpOf n (drop at t) → lump ≡ take n (drop at t)
    → ((us : List (List ℕ)) → joined us ≡ take at t → IsFound found us → IsFound new (us ++ lump ∷ [])) → FoundBefore (at + n) new t
found_more found new at n t lump f u e step =
    let unit_is : lump ≡ u.unit = e ∙ ap (take n) u.whole ∙ take_at u.unit u.rest n (sym u.counted) in
    record {
      lumps = f.lumps ++ u.unit ∷ [];
      are = append_lump f.lumps u.unit (drop at t) (drop (at + n) t) t f.are (lump_alone at n t u);
      is = subst (λ (v : List ℕ). IsFound new (f.lumps ++ v ∷ [])) unit_is (step f.lumps (lumps_take f.lumps at t f.are) f.is);
    }

-- a text with a separator among its lumps has none
pub none_separated : (found : Option (Bor (List ℕ) × Bor (List ℕ))) (at : ℕ) (t : List ℕ) → FoundBefore at found t → at < length t → is_separator (first_octet (drop at t)) ≡ true
    → (before x : List ℕ) → IsLastOutside before x t → ⊥
none_separated found at t f lt s before x o =
    not_past_separator at (length t) t (record { lumps = f.lumps; are = f.are }) lt (omega arith) s
    (record { lumps = o.lumps; are = subst (λ (u : List ℕ). AreLumpsBefore o.lumps u t) (sym (drop_all (length t) t (omega arith))) o.are })

-- at the end of the text all is found
pub found_all : (found : Option (Bor (List ℕ) × Bor (List ℕ))) (at : ℕ) (t : List ℕ) → length t ≤ at → FoundBefore at found t
    → MatchOption found ((before x : List ℕ) → IsLastOutside before x t → ⊥) (λ (r : Bor (List ℕ) × Bor (List ℕ)). IsLastOutside r.0.now r.1.now t)
found_all found at t le f = by found f.is
  where
    are : AreLumpsBefore f.lumps [] t
    are = subst (λ (u : List ℕ). AreLumpsBefore f.lumps u t) (drop_all at t le) f.are

    none : HaveNone f.lumps → (before x : List ℕ) → IsLastOutside before x t → ⊥
    none h before x o =
        let i = o.is in
        let w : f.lumps ≡ i.front ++ i.lump ∷ i.back = one_row f.lumps o.lumps t are o.are ∙ i.lumps_are in
        none_of i.front i.lump i.back (subst (λ (us : List (List ℕ)). HaveNone us) w h) i.opens i.inner x i.behind i.is.has

    by : (r : Option (Bor (List ℕ) × Bor (List ℕ))) → IsFound r f.lumps
        → MatchOption r ((before x : List ℕ) → IsLastOutside before x t → ⊥) (λ (q : Bor (List ℕ) × Bor (List ℕ)). IsLastOutside q.0.now q.1.now t)
    by None h = none h
    by (Some q) o = record { lumps = f.lumps; are = are; is = o }

-- ---- the one that counts

pub angle_told : (t : List ℕ) (r : Option (Bor (List ℕ) × Bor (List ℕ))) → ((b y : List ℕ) → IsLastOutside b y t → ⊥)
    → MatchOption r (NoAngle t) (λ (q : Bor (List ℕ) × Bor (List ℕ)). (behind : List ℕ) × IsLastAngle q.0.now q.1.now behind t)
    → MatchOption r ((before x : List ℕ) → IsAddressAngle before x t → ⊥) (λ (q : Bor (List ℕ) × Bor (List ℕ)). IsAddressAngle q.0.now q.1.now t)
angle_told t None n g = λ before x a. by before x a
  where
    by : (before x : List ℕ) → IsAddressAngle before x t → ⊥
    by before x (Outside o) = n before x o
    by before x (Anywhere m k l) = g before x k l.has
angle_told t (Some q) n g = Anywhere n g.0 g.1
