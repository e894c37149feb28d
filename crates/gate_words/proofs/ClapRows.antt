-- Settings as the rows of clap's matches.
use Rattle.std.proofs.Common.{◌≡◌, ◌⊎◌, inl, inr, ℕ, ◌≤◌, List, [], ◌∷◌, ◌++◌, length, map, Bool, true, false, ◌||◌, if◌then◌else◌, Some, None, slice_get, bytes_eq}
use Rattle.std.proofs.Common.{refl, sym, ap, subst, ◌∙◌, arith, append-nil, length-append}
use Rattle.std.proofs.lemmas.List.{map-append}
use Rattle.clap.specs.Takes.{is_given, use_passes}
use Rattle.clap.specs.Values.{reading_of}
use Rattle.clap.specs.Walk.{Row, Rule, Text, at_row, first_of, has_row, more_values, used}
use Rattle.clap.specs.declared.builder.action.ArgAction.TheVariants.{Set}
use Rattle.clap.specs.declared.builder.value_parser.ValueParser.TheVariants as vp
use Rattle.clap.specs.declared.parser.matches.ValueSource.TheVariants.{CommandLine}
use Rattle.gate_words.specs.Options.{Setting, value_if, values_of}
use Rattle.gate_words.specs.reading.Commands.{id_of, option_rule}
use Rattle.gate_words.specs.declared.option.Name.{Name}
use Rattle.gate_words.specs.declared.option.Name.TheVariants.{Store, User, Base, Listen, Connections}
use Rattle.gate_words.proofs.Values.{value_if-own, values-append}

abbrev pub is_required : Name → Bool
is_required Connections = false
is_required _ = true

-- an option's rule, once its command is built
abbrev pub filled : Name → Rule
filled name = record (option_rule (is_required name) (id_of name)) {
  action = Some Set;
  range = Some (record { start_inclusive = 1; end_inclusive = 1 });
  parser = Some vp.String;
}

-- the row of a setting
abbrev pub row : Setting → Row
row setting = record { id = id_of setting.name; values = setting.value ∷ []; count = None; source = Some CommandLine; reading = reading_of vp.String }

-- each option is given one value at most
abbrev pub AreSingle : List Setting → Type 0
AreSingle settings = (name : Name) → length (values_of name settings) ≤ 1

-- ---- names

-- two names are the same, or differ
either : (asked name : Name) → (name ≡ asked)
    ⊎ ((bytes_eq (id_of name) (id_of asked) ≡ false) × ((value : List ℕ) (values : List (List ℕ)) → value_if asked name value values ≡ values))
either Store Store = inl refl
either User User = inl refl
either Base Base = inl refl
either Listen Listen = inl refl
either Connections Connections = inl refl
either _ _ = inr (refl, λ value values. refl)

-- a name's id is its own
pub id-same : (name : Name) → bytes_eq (id_of name) (id_of name) ≡ true
id-same Store = refl
id-same User = refl
id-same Base = refl
id-same Listen = refl
id-same Connections = refl

id-own : (asked name : Name) → name ≡ asked → bytes_eq (id_of name) (id_of asked) ≡ true
id-own asked name same = ap (λ (n : Name). bytes_eq (id_of n) (id_of asked)) same ∙ id-same asked

own : (asked name : Name) (value : List ℕ) (values : List (List ℕ)) → name ≡ asked → value_if asked name value values ≡ value ∷ values
own asked name value values same = ap (λ (n : Name). value_if asked n value values) same ∙ value_if-own asked value values

-- ---- rows of settings

-- an option without a value has no row
no-row : (name : Name) (front : List Setting) → values_of name front ≡ [] → has_row (id_of name) (map row front) ≡ false
no-row name [] none = refl
no-row name (setting ∷ front) none =
    elim (either name setting.name) [
      | inl same ↦ absurd (let e : setting.value ∷ values_of name front ≡ [] = sym (own name setting.name setting.value (values_of name front) same) ∙ none in cc)
      | inr other ↦ rw other.0 (no-row name front (sym (other.1 setting.value (values_of name front)) ∙ none))
    ]

-- the first value of an option is that of its row
pub first-row : (name : Name) (settings : List Setting) → first_of (id_of name) (map row settings) ≡ slice_get (values_of name settings) 0
first-row name [] = refl
first-row name (setting ∷ settings) =
    elim (either name setting.name) [
      | inl same ↦ rw (id-own name setting.name same, own name setting.name setting.value (values_of name settings) same) refl
      | inr other ↦ rw (other.0, other.1 setting.value (values_of name settings)) (first-row name settings)
    ]

-- an option with a value has a row of the words
pub given-row : (name : Name) (settings : List Setting) (value : List ℕ) (more : List (List ℕ)) → values_of name settings ≡ value ∷ more
    → is_given (id_of name) (map row settings) ≡ true
given-row name [] value more has = absurd (let e = has in cc)
given-row name (setting ∷ settings) value more has =
    elim (either name setting.name) [
      | inl same ↦ rw (id-own name setting.name same) refl
      | inr other ↦ rw other.0 (given-row name settings value more (sym (other.1 setting.value (values_of name settings)) ∙ has))
    ]

-- ---- one setting more

-- where no row has the id, there is a row more
added : (id : Text) (change : Row → List Row) (missing rows : List Row) → has_row id rows ≡ false → at_row id change missing rows ≡ rows ++ missing
added id change missing [] none = refl
added id change missing (r ∷ rs) none =
    elim (bytes_eq r.id id) as (λ t. (t || has_row id rs) ≡ false
    → (if◌then◌else◌ {A = List Row} t (change r ++ rs) (r ∷ at_row id change missing rs)) ≡ r ∷ (rs ++ missing)) [
      | true ↦ λ is. absurd (let e : true ≡ false = is in cc)
      | false ↦ λ is. ap (λ (l : List Row). r ∷ l) (added id change missing rs is)
    ] none

-- the use of an option that has no row yet adds its setting's
pub used-row : (setting : Setting) (front : List Setting) → has_row (id_of setting.name) (map row front) ≡ false
    → used (filled setting.name) (setting.value ∷ []) (map row front) ≡ map row (front ++ setting ∷ [])
used-row setting front none =
    let kept : at_row (id_of setting.name) (λ _. []) [] (map row front) ≡ map row front =
    added (id_of setting.name) (λ _. []) [] (map row front) none ∙ append-nil (map row front) in
    ap (at_row (id_of setting.name) (more_values CommandLine (setting.value ∷ [])) (row setting ∷ [])) kept
    ∙ added (id_of setting.name) (more_values CommandLine (setting.value ∷ [])) (row setting ∷ []) (map row front) none
    ∙ sym (map-append row front (setting ∷ []))

-- and it passes
pub use-fits : (again : Bool) (setting : Setting) (rows : List Row) → has_row (id_of setting.name) rows ≡ false
    → use_passes again (filled setting.name) (setting.value ∷ []) rows ≡ true
use-fits again setting rows none = rw none refl

alone : (front : List (List ℕ)) (value : List ℕ) (more : List (List ℕ)) → length (front ++ value ∷ more) ≤ 1 → front ≡ []
alone [] value more one = refl
alone (other ∷ front) value more one = absurd (omega (arith, one, length-append front (value ∷ more)))

-- of settings that are single, none before one has its option
pub not-before : (all front : List Setting) (setting : Setting) (back : List Setting) → AreSingle all → all ≡ front ++ setting ∷ back
    → has_row (id_of setting.name) (map row front) ≡ false
not-before all front setting back single whole =
    let values : values_of setting.name all ≡ values_of setting.name front ++ setting.value ∷ values_of setting.name back =
    ap (values_of setting.name) whole ∙ values-append setting.name front (setting ∷ back)
    ∙ ap (λ (vs : List (List ℕ)). values_of setting.name front ++ vs) (value_if-own setting.name setting.value (values_of setting.name back)) in
    no-row setting.name front (alone (values_of setting.name front) setting.value (values_of setting.name back)
    (subst (λ (vs : List (List ℕ)). length vs ≤ 1) values (single setting.name)))
