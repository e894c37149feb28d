-- Tags are read as what they are.
use Rattle.std.proofs.Common.{◌≡◌, ℕ, zero, suc, ◌+◌, ◌-◌, ◌<◌, ◌≤◌, true, false, ◌&&◌, List, [], ◌∷◌, ◌++◌, length, take, cond, refl, sym, ap, subst, ◌∙◌, arith}
use Rattle.std.specs.Prelude.{◌==◌, nat_lt}
use Rattle.std.proofs.lemmas.Bool.{and_parts, eqb-true, ltb-true, lt-ltb}
use Rattle.std.proofs.lemmas.List.{length-append, take_at, take-append-le}
use Rattle.imap_types.specs.Octets.{is_alnum}
use Rattle.imap_types.specs.Texts.{Each, plain_octets}
use Rattle.imap_values.proofs.Cuts.{plain_small}
use Rattle.command_parts.specs.Fields.{fits_octet, IsTag}
use Rattle.command_parts.specs.declared.no_command.NoCommand.TheVariants.{NeedMore}
use Rattle.command_parts.specs.declared.lexeme.LexemeStep.{LexemeStep}
use Rattle.command_parts.specs.declared.lexeme.LexemeStep.TheVariants.{Fail, On, End}
use Rattle.command_parts.specs.declared.tag.TagOctets.{TagOctets}
use Rattle.command_parts.specs.reading.Steps.{read_from}
use Rattle.command_parts.specs.reading.Lexemes.{tag_advance, tag_at}
use Rattle.command_parts.proofs.Readers.{IsReader}
use Rattle.command_parts.proofs.Chains.{Viewed, viewed, view_reader, same_reader}
use Rattle.command_parts.proofs.Lexing.{Accepts, IsPlain, IsAlive, accepted_octets, lexeme_reader}
use Rattle.command_parts.proofs.Stepping.{from_if, at_true, on_if, go_if}

abbrev tag : ℕ → TagOctets
tag n = record { count = n }

abbrev in_tag : ℕ → LexemeStep TagOctets
in_tag n = cond (nat_lt n 32) (On (tag (n + 1))) Fail

abbrev behind_tag : ℕ → ℕ → LexemeStep TagOctets
behind_tag n c = cond (c == 32 && nat_lt 0 n) (End (tag n)) Fail

alnum_small : (c : ℕ) → is_alnum c ≡ true → fits_octet c ≡ true
alnum_small c e = grind arith

alnum_no_line : (c : ℕ) → is_alnum c ≡ true → (c == 10) ≡ false
alnum_no_line c e = grind arith

space_small : (c : ℕ) → (c == 32) ≡ true → fits_octet c ≡ true
space_small c e = grind arith

alnum_no_space : is_alnum 32 ≡ false
alnum_no_space = refl

tag_plain : IsPlain tag_advance
tag_plain = record {
  small = λ s c h. go_if (is_alnum c) (in_tag s.count) (behind_tag s.count c) (λ e k. alnum_small c e)
      (λ e k. go_if (c == 32 && nat_lt 0 s.count) (End (tag s.count)) Fail (λ f g. space_small c (and_parts (c == 32) (nat_lt 0 s.count) f).0) (λ f g. absurd (g refl)) k) h;
  on_line = λ s p c h. on_if (is_alnum c) (in_tag s.count) (behind_tag s.count c) p (λ e k. alnum_no_line c e)
      (λ e k. on_if (c == 32 && nat_lt 0 s.count) (End (tag s.count)) Fail p (λ f g. absurd cc) (λ f g. absurd cc) k) h;
}

-- a space ends a tag that has an octet
tag_ends : (n : ℕ) → 0 < n → Accepts tag_advance (tag n) (tag n) (32 ∷ [])
tag_ends n some = at_true (nat_lt 0 n) (End (tag n)) Fail (λ p. ⊥) (tag n) [] (lt-ltb 0 n some) (refl, refl)

tag_alive : IsAlive tag_advance (λ s. Unit {0})
tag_alive = record {
  keeps = λ s p c inv e. tt;
  some = λ s inv. by s.count;
}
  where
    by : (n : ℕ) → (v : TagOctets) × (t : List ℕ) × Accepts tag_advance (tag n) v t
    by zero = (tag 1, 97 ∷ 32 ∷ [], (refl, refl))
    by (suc n) = (tag (suc n), 32 ∷ [], tag_ends (suc n) (omega arith))

-- the rest of a tag of which n octets were read
record TagRest (n : ℕ) (v : TagOctets) (t : List ℕ) : Type 0 where
  front : List ℕ
  whole : t ≡ front ++ 32 ∷ []
  alnum : Each is_alnum front
  counted : v.count ≡ n + length front
  some : 0 < n + length front
  few : n + length front ≤ 32

tag_forth : (t : List ℕ) (n : ℕ) (v : TagOctets) → n ≤ 32 → Accepts tag_advance (tag n) v t → TagRest n v t
tag_forth [] n v le h = absurd h
tag_forth (c ∷ t) n v le h = from_if (is_alnum c) (in_tag n) (behind_tag n c) (λ p. Accepts tag_advance p v t) v t
    (λ e k. from_if (nat_lt n 32) (On (tag (n + 1))) Fail (λ p. Accepts tag_advance p v t) v t
    (λ f g. more e (tag_forth t (n + 1) v (let lt = ltb-true n 32 f in omega (arith, lt)) g)) (λ f g. absurd g) k)
    (λ e k. from_if (c == 32 && nat_lt 0 n) (End (tag n)) Fail (λ p. Accepts tag_advance p v t) v t
    (λ f g. last (and_parts (c == 32) (nat_lt 0 n) f) g.0 g.1) (λ f g. absurd g) k) h
  where
    more : is_alnum c ≡ true → TagRest (n + 1) v t → TagRest n v (c ∷ t)
    more e r = record {
      front = c ∷ r.front;
      whole = ap (λ (u : List ℕ). c ∷ u) r.whole;
      alnum = (e, r.alnum);
      counted = omega (arith, r.counted);
      some = omega arith;
      few = omega (arith, r.few);
    }

    last : ((c == 32) ≡ true) × (nat_lt 0 n ≡ true) → v ≡ tag n → t ≡ [] → TagRest n v (c ∷ t)
    last e same none = record {
      front = [];
      whole = ap (λ (d : ℕ). d ∷ t) (eqb-true c 32 e.0) ∙ ap (λ (u : List ℕ). 32 ∷ u) none;
      alnum = tt;
      counted = ap (λ (s : TagOctets). s.count) same ∙ omega arith;
      some = let lt = ltb-true 0 n e.1 in omega (arith, lt);
      few = omega (arith, le);
    }

tag_back : (x : List ℕ) (n : ℕ) → Each is_alnum x → 0 < n + length x → n + length x ≤ 32 → Accepts tag_advance (tag n) (tag (n + length x)) (x ++ 32 ∷ [])
tag_back [] n each some few =
    subst (λ (m : ℕ). Accepts tag_advance (tag n) (tag m) (32 ∷ [])) (omega arith) (tag_ends n (omega (arith, some)))
tag_back (c ∷ x) n each some few =
    let v : TagOctets = tag (n + length (c ∷ x)) in
    let ih = subst (λ (m : ℕ). Accepts tag_advance (tag (n + 1)) (tag m) (x ++ 32 ∷ [])) (omega arith) (tag_back x (n + 1) each.1 (omega arith) (omega (arith, few))) in
    at_true (is_alnum c) (in_tag n) (behind_tag n c) (λ p. Accepts tag_advance p v (x ++ 32 ∷ [])) v (x ++ 32 ∷ []) each.0
    (at_true (nat_lt n 32) (On (tag (n + 1))) Fail (λ p. Accepts tag_advance p v (x ++ 32 ∷ [])) v (x ++ 32 ∷ []) (lt-ltb n 32 (omega (arith, few))) ih)

-- a tag and its space
abbrev pub TagText : List ℕ → List ℕ → Type 0
TagText s t = (t ≡ s ++ 32 ∷ []) × IsTag s

tag_alone : (a : TagOctets) (t rest : List ℕ) → Accepts tag_advance (tag 0) a t → take a.count (plain_octets t ++ rest) ≡ take a.count (plain_octets t)
tag_alone a t rest h =
    let r = tag_forth t 0 a (omega arith) h in
    let plain = plain_small t (accepted_octets tag_advance tag_plain (tag 0) a t h) in
    let long = ap length r.whole ∙ length-append r.front (32 ∷ []) in
    let same = ap length plain in
    take-append-le a.count (plain_octets t) rest (omega (arith, r.counted, long, same))

-- a tag is read with the space behind it
pub tag_reader : IsReader NeedMore TagText tag_at
unfolding tag_at
tag_reader = same_reader NeedMore (Viewed (λ a b. take a.count b) (Accepts tag_advance (tag 0))) TagText (viewed (λ a b. take a.count b) (read_from tag_advance (tag 0)))
    forth back (view_reader NeedMore (λ a b. take a.count b) (Accepts tag_advance (tag 0)) (read_from tag_advance (tag 0))
    (lexeme_reader tag_advance (λ s. Unit {0}) tag_plain tag_alive (tag 0) tt) tag_alone)
  where
    cut_is : (t : List ℕ) (a : TagOctets) (h : Accepts tag_advance (tag 0) a t) (r : TagRest 0 a t) → take a.count (plain_octets t) ≡ r.front
    cut_is t a h r =
        ap (take a.count) (plain_small t (accepted_octets tag_advance tag_plain (tag 0) a t h) ∙ r.whole) ∙ take_at r.front (32 ∷ []) a.count (omega (arith, r.counted))

    forth : (s t : List ℕ) → Viewed (λ a b. take a.count b) (Accepts tag_advance (tag 0)) s t → TagText s t
    forth s t h =
        let r = tag_forth t 0 h.0 (omega arith) h.1 in
        let same : s ≡ r.front = h.2 ∙ cut_is t h.0 h.1 r in
        (r.whole ∙ ap (λ (u : List ℕ). u ++ 32 ∷ []) (sym same), subst IsTag (sym same) (r.alnum, omega (arith, r.some), omega (arith, r.few)))

    back : (s t : List ℕ) → TagText s t → Viewed (λ a b. take a.count b) (Accepts tag_advance (tag 0)) s t
    back s t h =
        let k : Accepts tag_advance (tag 0) (tag (0 + length s)) t = subst (Accepts tag_advance (tag 0) (tag (0 + length s))) (sym h.0)
        (tag_back s 0 h.1.0 (omega (arith, h.1.1)) (omega (arith, h.1.2))) in (
          tag (0 + length s),
          k,
          sym (ap (take (0 + length s)) (plain_small t (accepted_octets tag_advance tag_plain (tag 0) (tag (0 + length s)) t k) ∙ h.0)
              ∙ take_at s (32 ∷ []) (0 + length s) (omega arith)),
        )
