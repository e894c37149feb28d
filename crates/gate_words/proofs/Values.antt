-- The values that settings give to an option.
use Rattle.std.proofs.Common.{◌≡◌, ◌<◌, ◌+◌, ℕ, List, [], ◌∷◌, ◌++◌, length, map, take, get_or, refl, sym, ap, ◌∙◌}
use Rattle.gate_words.specs.Options.{Setting, value_if, values_of}
use Rattle.gate_words.specs.reading.Lent.{setting_in, IsGiven}
use Rattle.gate_words.specs.declared.option.Name.{Name}
use Rattle.std.proofs.lemmas.List.{map_more}
use Rattle.gate_words.specs.declared.option.LentSetting.{LentSetting}
use Rattle.gate_words.specs.declared.settings.GivenValues.{GivenValues}
use Rattle.gate_words.specs.declared.settings.GivenValues.TheVariants.{Absent, Single, Several}
use Rattle.gate_words.specs.declared.option.Name.TheVariants.{Store, User, Base, Listen, Connections}

-- whether a value comes before others or not, values after those stay after them
pub value_if-before : (asked name : Name) (value : List ℕ) (values more : List (List ℕ)) → value_if asked name value values ++ more ≡ value_if asked name value (values ++ more)
value_if-before Store Store value values more = refl
value_if-before User User value values more = refl
value_if-before Base Base value values more = refl
value_if-before Listen Listen value values more = refl
value_if-before Connections Connections value values more = refl
value_if-before _ _ value values more = refl

-- the values that an option is given by some settings and then by others are those of both in turn
pub values-append : (asked : Name) (front back : List Setting) → values_of asked (front ++ back) ≡ values_of asked front ++ values_of asked back
values-append asked [] back = refl
values-append asked (setting ∷ front) back =
    ap (value_if asked setting.name setting.value) (values-append asked front back)
    ∙ sym (value_if-before asked setting.name setting.value (values_of asked front) (values_of asked back))

-- a value of the option that is asked for comes before the others
pub value_if-own : (name : Name) (value : List ℕ) (values : List (List ℕ)) → value_if name name value values ≡ value ∷ values
value_if-own Store value values = refl
value_if-own User value values = refl
value_if-own Base value values = refl
value_if-own Listen value values = refl
value_if-own Connections value values = refl

-- a value of another option is left out
pub value_if-other : (asked name : Name) (value : List ℕ) (values : List (List ℕ)) → (name ≡ asked → ⊥) → value_if asked name value values ≡ values
value_if-other Store Store value values apart = absurd (apart refl)
value_if-other User User value values apart = absurd (apart refl)
value_if-other Base Base value values apart = absurd (apart refl)
value_if-other Listen Listen value values apart = absurd (apart refl)
value_if-other Connections Connections value values apart = absurd (apart refl)
value_if-other _ _ value values apart = refl

-- the values of one setting more
pub next-values : (asked : Name) (settings : List LentSetting) (index : ℕ) (d : LentSetting) → index < length settings
    → values_of asked (map setting_in (take (index + 1) settings)) ≡ values_of asked (map setting_in (take index settings)) ++ values_of asked
    (setting_in (get_or settings index d) ∷ [])
next-values asked settings index d within =
    ap (values_of asked) (map_more setting_in settings index d within)
    ∙ values-append asked (map setting_in (take index settings)) (setting_in (get_or settings index d) ∷ [])

-- one value more
pub several-more : (b : List ℕ) (values : List (List ℕ)) → IsGiven Several values → IsGiven Several (values ++ b ∷ [])
several-more b values is = (is.0, is.1, is.2 ++ b ∷ [], ap (λ (vs : List (List ℕ)). vs ++ b ∷ []) is.3)

-- where there is a value, with one more there are several
pub more-given : (given : GivenValues) (b : List ℕ) (values : List (List ℕ)) → IsGiven given values → (given ≡ Absent → ⊥) → IsGiven Several (values ++ b ∷ [])
more-given Absent b values is not_none = absurd (not_none refl)
more-given (Single a) b values is not_none = (a.now, b, [], ap (λ (vs : List (List ℕ)). vs ++ b ∷ []) is)
more-given Several b values is not_none = several-more b values is
