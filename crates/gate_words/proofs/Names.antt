-- Options as they are written, and as they are read.
use Rattle.std.proofs.Common.{◌≡◌, inl, inr, ℕ, List, [], ◌∷◌, ◌++◌, true, false, ◌==◌, Some, None, refl, sym, ap, ◌∙◌, codes}
use Rattle.std.proofs.lemmas.Bool.{eqb-true, eq-eqb}
use Rattle.std.proofs.lemmas.Option.{none-some, same_Some}
use Rattle.gate_words.specs.Options.{name_text, Setting, joined_text, BeginsWithDash}
use Rattle.gate_words.specs.reading.Words.{cut, name_of, named, joined, begins_with_dash}
use Rattle.gate_words.specs.declared.option.Name.{Name}
use Rattle.gate_words.specs.declared.option.Name.TheVariants.{Store, User, Base, Listen, Connections}
use Rattle.gate_words.proofs.Cut.{cut-is}
use Rattle.octets.proofs.Steps.{and_then-some, map-some, is_or_not}

-- a word that is read as an option is its text
pub name_of-is : (word : List ℕ) (name : Name) → name_of word ≡ Some name → word ≡ name_text name
name_of-is word name found =
    elim (is_or_not word (codes "--store")) [
      | inl is ↦ is ∙ ap name_text (same_Some Store name (ap name_of (sym is) ∙ found))
      | inr no_store ↦ elim (is_or_not word (codes "--user")) [
        | inl is ↦ is ∙ ap name_text (same_Some User name (ap name_of (sym is) ∙ found))
        | inr no_user ↦ elim (is_or_not word (codes "--base")) [
          | inl is ↦ is ∙ ap name_text (same_Some Base name (ap name_of (sym is) ∙ found))
          | inr no_base ↦ elim (is_or_not word (codes "--listen")) [
            | inl is ↦ is ∙ ap name_text (same_Some Listen name (ap name_of (sym is) ∙ found))
            | inr no_listen ↦ elim (is_or_not word (codes "--connections")) [
              | inl is ↦ is ∙ ap name_text (same_Some Connections name (ap name_of (sym is) ∙ found))
              | inr no_connections ↦ absurd (none-some name (rw (no_store, no_user, no_base, no_listen, no_connections) at found))
            ]
          ]
        ]
      ]
    ]

-- and its text is read as it
pub name_of-text : (name : Name) → name_of (name_text name) ≡ Some name
name_of-text Store = refl
name_of-text User = refl
name_of-text Base = refl
name_of-text Listen = refl
name_of-text Connections = refl

-- a setting in one word is no option alone
pub name_of-joined : (name : Name) (value : List ℕ) → name_of (name_text name ++ 61 ∷ value) ≡ None
name_of-joined Store value = refl
name_of-joined User value = refl
name_of-joined Base value = refl
name_of-joined Listen value = refl
name_of-joined Connections value = refl

-- an option, `=` and a value in one word are read as that setting
pub joined-text : (name : Name) (value : List ℕ) → joined (name_text name ++ 61 ∷ value) ≡ Some (record { name = name; value = value })
joined-text Store value = refl
joined-text User value = refl
joined-text Base value = refl
joined-text Listen value = refl
joined-text Connections value = refl

-- a word that is read as a setting is its option, `=` and its value
pub joined-is : (word : List ℕ) (setting : Setting) → joined word ≡ Some setting → word ≡ joined_text setting
joined-is word setting found =
    let parts = and_then-some named (cut word) setting found in
    let name = map-some (λ n. let s : Setting = record { name = n; value = parts.0.1 } in s) (name_of parts.0.0) setting parts.2 in
    let text : parts.0.0 ≡ name_text name.0 = name_of-is parts.0.0 name.0 name.1 in
    cut-is word parts.0.0 parts.0.1 parts.1 ∙ ap (λ (t : List ℕ). t ++ 61 ∷ parts.0.1) text ∙ ap joined_text name.2

-- a word in which the test finds no dash at the front begins with none
pub no-dash : (word : List ℕ) → begins_with_dash word ≡ false → BeginsWithDash word → ⊥
no-dash [] is dash = let e = dash.1 in cc
no-dash (octet ∷ word) is dash =
    let first : octet ≡ 45 = ap (λ (t : List ℕ). elim t as (λ _. ℕ) [ [] ↦ 0 | a ∷ b ↦ a ]) dash.1 in
    let yes : (octet == 45) ≡ true = eq-eqb octet 45 first in
    cc

-- in a word that begins with no dash the test finds none
pub test-no-dash : (word : List ℕ) → (BeginsWithDash word → ⊥) → begins_with_dash word ≡ false
test-no-dash [] none = refl
test-no-dash (octet ∷ word) none = elim (octet == 45) as (λ t. (octet == 45) ≡ t
    → t ≡ false) [ true ↦ λ is. absurd (none (word, ap (λ (o : ℕ). o ∷ word) (eqb-true octet 45 is))) | false ↦ λ is. refl ] refl
