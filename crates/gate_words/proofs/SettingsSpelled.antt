-- Words are read as settings exactly where they spell them.
use Rattle.std.proofs.Common.{◌≡◌, inl, inr, ℕ, List, [], ◌∷◌, ◌++◌, true, false, if◌then◌else◌, Option, Some, None, option_map, option_and_then, refl, sym, ap, subst, ◌∙◌}
use Rattle.std.proofs.lemmas.Option.{none-some, same_Some}
use Rattle.gate_words.specs.Options.{name_text, Setting, joined_text, BeginsWithDash, SpellsWord, SpellsAll}
use Rattle.gate_words.specs.reading.Words.{name_of, joined, begins_with_dash, WordKind, Waits, Sets, kind_where_none_waits, kind_of, waiting_after, before, settings}
use Rattle.gate_words.specs.declared.option.Name.{Name}
use Rattle.gate_words.proofs.Names.{name_of-is, name_of-text, name_of-joined, joined-text, joined-is, no-dash, test-no-dash}
use Rattle.octets.proofs.Steps.{and_then-some, map-some}

-- ---- words that are read spell settings

-- After an option that waits, its value comes first.
abbrev SpelledAfter : Option Name → List (List ℕ) → List Setting → Type 0
SpelledAfter None words found = SpellsAll found words
SpelledAfter (Some name) words found = (value : List ℕ) × (rest : List (List ℕ)) × (more : List Setting) × (words ≡ value ∷ rest) × (BeginsWithDash value → ⊥)
    × SpellsAll more rest × (found ≡ record { name = name; value = value } ∷ more)

abbrev Follows : List (List ℕ) → Type 0
Follows words = (waiting : Option Name) (found : List Setting) → settings waiting words ≡ Some found → SpelledAfter waiting words found

-- the word is an option, whose value follows
first-name : (word : List ℕ) (words : List (List ℕ)) (name : Name) (found : List Setting) → name_of word ≡ Some name → SpelledAfter (Some name) words found
    → SpellsAll found (word ∷ words)
first-name word words name found is s =
    let words_are : word ∷ words ≡ (name_text name ∷ s.0 ∷ []) ++ s.1 = ap (λ (w : List ℕ). w ∷ words) (name_of-is word name is)
    ∙ ap (λ (ws : List (List ℕ)). name_text name ∷ ws) s.3 in
    subst (λ (f : List Setting). SpellsAll f (word ∷ words)) (sym s.6) (name_text name ∷ s.0 ∷ [], s.1, words_are, inl (refl, s.4), s.5)

-- the word is a setting
first-joined : (word : List ℕ) (words : List (List ℕ)) (setting : Setting) (more : List Setting) → joined word ≡ Some setting → SpellsAll more words
    → SpellsAll (setting ∷ more) (word ∷ words)
first-joined word words setting more is spelled =
    let words_are : word ∷ words ≡ (joined_text setting ∷ []) ++ words = ap (λ (w : List ℕ). w ∷ words) (joined-is word setting is) in
    (joined_text setting ∷ [], words, words_are, inr refl, spelled)

spelled-first : (word : List ℕ) (words : List (List ℕ)) (o : Option Name) (kind : WordKind) (found : List Setting) → Follows words → name_of word ≡ o
    → kind_where_none_waits o word ≡ Some kind → option_map (before kind) (settings (waiting_after kind) words) ≡ Some found → SpellsAll found (word ∷ words)
spelled-first word words (Some name) (Waits other) found follows is step rest =
    let same : name ≡ other = ap (λ (k : WordKind). elim k as (λ _. Name) [ Waits n ↦ n | Sets s ↦ name ]) (same_Some (Waits name) (Waits other) step) in
    let r = map-some (before (Waits other)) (settings (Some other) words) found rest in
    let s = follows (Some other) found (r.1 ∙ ap (λ (f : List Setting). Some f) r.2) in
    first-name word words other found (is ∙ ap (λ (n : Name). Some n) same) s
spelled-first word words (Some name) (Sets setting) found follows is step rest = absurd (let e : Waits name ≡ Sets setting = same_Some _ _ step in cc)
spelled-first word words None kind found follows is step rest =
    let s = map-some Sets (joined word) kind step in
    let moved = ap (λ (k : WordKind). option_map (before k) (settings (waiting_after k) words)) s.2 ∙ rest in
    let r = map-some (before (Sets s.0)) (settings None words) found moved in
    subst (λ (f : List Setting). SpellsAll f (word ∷ words)) r.2 (first-joined word words s.0 r.0 s.1 (follows None r.0 r.1))

spelled-value : (word : List ℕ) (words : List (List ℕ)) (name : Name) (kind : WordKind) (found : List Setting) → Follows words → kind_of (Some name) word ≡ Some kind
    → option_map (before kind) (settings (waiting_after kind) words) ≡ Some found → SpelledAfter (Some name) (word ∷ words) found
spelled-value word words name kind found follows step rest =
    elim (begins_with_dash word) as (λ t. begins_with_dash word ≡ t
    → (if◌then◌else◌ {A = Option WordKind} t None (Some (Sets (record { name = name; value = word })))) ≡ Some kind → SpelledAfter (Some name) (word ∷ words) found) [
      | true ↦ λ dash is. absurd (none-some kind is)
      | false ↦ λ dash is.
          let set : Setting = record { name = name; value = word } in
          let same : Sets set ≡ kind = same_Some (Sets set) kind is in
          let moved = ap (λ (k : WordKind). option_map (before k) (settings (waiting_after k) words)) same ∙ rest in
          let r = map-some (before (Sets set)) (settings None words) found moved in
          (word, words, r.0, refl, no-dash word dash, follows None r.0 r.1, sym r.2)
    ] refl step

-- words that are read as settings spell them; where an option waits, its value comes first
pub spelled-from : (words : List (List ℕ)) → Follows words
spelled-from [] None found is = subst (λ (f : List Setting). SpellsAll f []) (same_Some [] found is) refl
spelled-from [] (Some name) found is = absurd (none-some found is)
spelled-from (word ∷ words) None found is =
    let next = and_then-some (λ (k : WordKind). option_map (before k) (settings (waiting_after k) words)) (kind_of None word) found is in
    spelled-first word words (name_of word) next.0 found (spelled-from words) refl next.1 next.2
spelled-from (word ∷ words) (Some name) found is =
    let next = and_then-some (λ (k : WordKind). option_map (before k) (settings (waiting_after k) words)) (kind_of (Some name) word) found is in
    spelled-value word words name next.0 found (spelled-from words) next.1 next.2

-- ---- words that spell settings are read

read-one : (setting : Setting) (here rest : List (List ℕ)) → SpellsWord setting here → settings None (here ++ rest) ≡ option_map (before (Sets setting)) (settings None rest)
read-one setting here rest (inl apart) =
    ap (λ (ws : List (List ℕ)). settings None (ws ++ rest)) apart.0
    ∙ ap (λ (o : Option Name). option_and_then (λ (k : WordKind). option_map (before k) (settings (waiting_after k) (setting.value ∷ rest)))
    (kind_where_none_waits o (name_text setting.name))) (name_of-text setting.name)
    ∙ rw (test-no-dash setting.value apart.1) (kept (settings None rest))
  where
    kept : (o : Option (List Setting)) → option_map (before (Waits setting.name)) (option_map (before (Sets setting)) o) ≡ option_map (before (Sets setting)) o
    kept None = refl
    kept (Some more) = refl
read-one setting here rest (inr together) =
    ap (λ (ws : List (List ℕ)). settings None (ws ++ rest)) together
    ∙ rw (name_of-joined setting.name setting.value, joined-text setting.name setting.value) refl

-- words that spell settings are read as them
pub settings-from : (found : List Setting) (words : List (List ℕ)) → SpellsAll found words → settings None words ≡ Some found
settings-from [] words spelled = ap (settings None) spelled
settings-from (setting ∷ found) words spelled =
    ap (settings None) spelled.2
    ∙ read-one setting spelled.0 spelled.1 spelled.3
    ∙ ap (option_map (before (Sets setting))) (settings-from found spelled.1 spelled.4)

-- words spell one list of settings at most
pub one-spelling : (words : List (List ℕ)) (one two : List Setting) → SpellsAll one words → SpellsAll two words → one ≡ two
one-spelling words one two a b = same_Some one two (sym (settings-from one words a) ∙ settings-from two words b)
