-- A text is read as a header property exactly where it is that one.
use Rattle.std.proofs.Common.{◌≡◌, ◌≢◌, ℕ, Bool, true, false, cond, List, [], ◌∷◌, ◌++◌, length, take, drop, Option, Some, None, codes, MatchOption, ◌==◌}
use Rattle.std.proofs.Common.{refl, sym, ap, subst, ◌∙◌, inl, inr, eqb-true}
use Rattle.std.specs.List.{AllByRecursion}
use Rattle.std.specs.Str.{bytes_eq}
use Rattle.std.proofs.lemmas.Bool.{cond-true, cond-false}
use Rattle.std.proofs.lemmas.List.{take-append-drop, nil_from_length}
use Rattle.std.proofs.lemmas.Slice.Eq.{bytes_eq-Decides}
use Rattle.text_words.specs.Cuts.{Stops, front, back}
use Rattle.text_words.proofs.CutLemmas.{front_back, front_each, front_is, back_is}
use Rattle.email_properties.specs.HeaderAsked.{HeaderAsked}
use Rattle.email_properties.specs.HeaderForms.{form_suffix, AsksForm, is_permitted}
use Rattle.email_properties.specs.HeaderProperties.{is_name_octet, all_suffix, IsHeaderProperty, Asked, ending, suffixed, endings, asked_among}
use Rattle.email_properties.specs.HeaderProperties.{header_asked, header_of, begins_with, header_in}
use Rattle.email_properties.specs.declared.header_form.HeaderForm.{HeaderForm}
use Rattle.email_properties.specs.declared.header_form.HeaderForm.TheVariants.{Raw, Text, Addresses, GroupedAddresses, MessageIds, Date, Urls}

-- ---- what stands behind a name

abbrev Ending : Type 0
Ending = List ℕ × HeaderForm × Bool

-- the text asks what stands beside it
record IsEnding (text : List ℕ) (form : HeaderForm) (all : Bool) : Type 0 where
  suffix : List ℕ
  text_is : text ≡ suffix ++ all_suffix all
  asks : AsksForm form suffix

abbrev asked_by : Ending → Asked
asked_by e = (e.1, e.2)

abbrev IsRow : Ending → Type 0
IsRow e = IsEnding e.0 e.1 e.2

by_suffix : (form : HeaderForm) (all : Bool) → IsRow (suffixed form all)
by_suffix form all = record { suffix = form_suffix form; text_is = refl; asks = inl refl }

by_none : (all : Bool) → IsRow (ending [] Raw all)
by_none all = record { suffix = []; text_is = refl; asks = inr (refl, refl) }

-- each row asks what its text says
are_rows : AllByRecursion IsRow endings
are_rows = (
  by_none false,
  (
    by_suffix Raw false,
    (
      by_suffix Text false,
      (
        by_suffix Addresses false,
        (
          by_suffix GroupedAddresses false,
          (
            by_suffix MessageIds false,
            (
              by_suffix Date false,
              (
                by_suffix Urls false,
                (
                  by_none true,
                  (
                    by_suffix Raw true,
                    (
                      by_suffix Text true,
                      (
                        by_suffix Addresses true,
                        (by_suffix GroupedAddresses true, (by_suffix MessageIds true, (by_suffix Date true, (by_suffix Urls true, tt)))),
                      ),
                    ),
                  ),
                ),
              ),
            ),
          ),
        ),
      ),
    ),
  ),
)

-- a row that is found has the text
found : (es : List Ending) (text : List ℕ) (a : Asked) → AllByRecursion IsRow es → asked_among es text ≡ Some a → IsEnding text a.0 a.1
unfolding asked_among
found [] text a rows is = absurd cc
found (e ∷ es) text a rows is = elim (bytes_eq e.0 text) as (λ b. bytes_eq e.0 text ≡ b → cond b (Some (asked_by e)) (asked_among es text) ≡ Some a → IsEnding text a.0 a.1) [
  | true ↦ λ same here.
      let pair : asked_by e ≡ a = cc in
      let row = rows.0 in
      record {
        suffix = row.suffix;
        text_is = sym ((bytes_eq-Decides e.0 text).0 same) ∙ row.text_is ∙ ap (λ (p : Asked). row.suffix ++ all_suffix p.1) pair;
        asks = subst (λ (p : Asked). AsksForm p.0 row.suffix) pair row.asks;
      }
  | false ↦ λ other there. found es text a rows.1 there
] refl is

read_suffix : (form : HeaderForm) (all : Bool) → asked_among endings (form_suffix form ++ all_suffix all) ≡ Some (form, all)
unfolding asked_among
read_suffix Raw true = refl
read_suffix Raw false = refl
read_suffix Text true = refl
read_suffix Text false = refl
read_suffix Addresses true = refl
read_suffix Addresses false = refl
read_suffix GroupedAddresses true = refl
read_suffix GroupedAddresses false = refl
read_suffix MessageIds true = refl
read_suffix MessageIds false = refl
read_suffix Date true = refl
read_suffix Date false = refl
read_suffix Urls true = refl
read_suffix Urls false = refl

read_none : (all : Bool) → asked_among endings (all_suffix all) ≡ Some (Raw, all)
unfolding asked_among
read_none true = refl
read_none false = refl

-- what a suffix and `:all` ask is read
read_ending : (form : HeaderForm) (all : Bool) (suffix : List ℕ) → AsksForm form suffix → asked_among endings (suffix ++ all_suffix all) ≡ Some (form, all)
read_ending form all suffix (inl is) = ap (λ (t : List ℕ). asked_among endings (t ++ all_suffix all)) is ∙ read_suffix form all
read_ending form all suffix (inr is) =
    ap (λ (t : List ℕ). asked_among endings (t ++ all_suffix all)) is.1 ∙ read_none all ∙ ap (λ (f : HeaderForm). Some (f, all)) (sym is.0)

stops_suffix : (form : HeaderForm) (all : Bool) → Stops is_name_octet (form_suffix form ++ all_suffix all)
stops_suffix Raw all = refl
stops_suffix Text all = refl
stops_suffix Addresses all = refl
stops_suffix GroupedAddresses all = refl
stops_suffix MessageIds all = refl
stops_suffix Date all = refl
stops_suffix Urls all = refl

stops_none : (all : Bool) → Stops is_name_octet (all_suffix all)
stops_none true = refl
stops_none false = tt

-- no octet of a name stands directly behind it
stops : (form : HeaderForm) (all : Bool) (suffix : List ℕ) → AsksForm form suffix → Stops is_name_octet (suffix ++ all_suffix all)
stops form all suffix (inl is) =
    subst (λ (t : List ℕ). Stops is_name_octet (t ++ all_suffix all)) (sym is) (stops_suffix form all)
stops form all suffix (inr is) = subst (λ (t : List ℕ). Stops is_name_octet (t ++ all_suffix all)) (sym is.1) (stops_none all)

-- ---- what is made of a name and what it asks

abbrev made : List ℕ → List ℕ → Asked → HeaderAsked
made key name a = record { key = key; name = name; form = a.0; all = a.1 }

record IsMade (key name : List ℕ) (a : Asked) (h : HeaderAsked) : Type 0 where
  some : (length name == 0) ≡ false
  takes : is_permitted name a.0 ≡ true
  is : made key name a ≡ h

make : (key name : List ℕ) (a : Asked) → (length name == 0) ≡ false → is_permitted name a.0 ≡ true → header_asked key name (Some a) ≡ Some (made key name a)
make key name a some takes = cond-false (length name == 0) _ _ some ∙ cond-true (is_permitted name a.0) _ _ takes

is_made : (key name : List ℕ) (a : Asked) (h : HeaderAsked) → header_asked key name (Some a) ≡ Some h → IsMade key name a h
is_made key name a h is = elim (length name == 0) as (λ b. (length name == 0) ≡ b → cond {A = Option HeaderAsked} b None
    (cond (is_permitted name a.0) (Some (made key name a)) None) ≡ Some h → IsMade key name a h) [
      | true ↦ λ none i. absurd cc
      | false ↦ λ some i.
          elim (is_permitted name a.0) as (λ b. is_permitted name a.0 ≡ b → cond b (Some (made key name a)) None ≡ Some h → IsMade key name a h) [
            | true ↦ λ takes j. record { some = some; takes = takes; is = cc }
            | false ↦ λ refused j. absurd cc
          ] refl i
    ] refl is

not_nil : (name : List ℕ) → name ≢ [] → (length name == 0) ≡ false
not_nil name some = elim (length name == 0) as (λ b. (length name == 0) ≡ b → (length name == 0) ≡ false) [
  | true ↦ λ none. absurd (some (nil_from_length name (eqb-true (length name) 0 none)))
  | false ↦ λ is. is
] refl

-- ---- the law

-- a property is read
pub complete : (h : HeaderAsked) (key : List ℕ) → IsHeaderProperty h key → header_in key ≡ Some h
complete h key p =
    let tail = p.suffix ++ all_suffix h.all in
    let field = h.name ++ tail in
    let ends : Stops is_name_octet tail = stops h.form h.all p.suffix p.asks_form in
    let name : front is_name_octet field ≡ h.name = front_is is_name_octet h.name tail p.is_named.0 ends in
    let rest : back is_name_octet field ≡ tail = back_is is_name_octet h.name tail p.is_named.0 ends in
    let asked : asked_among endings (back is_name_octet field) ≡ Some (h.form, h.all) =
    ap (asked_among endings) rest ∙ read_ending h.form h.all p.suffix p.asks_form in
    let begun : (k : List ℕ) → k ≡ codes "header:" ++ field → header_in k ≡ header_of k field =
    λ k is. subst (λ (t : List ℕ). cond (begins_with t (codes "header:")) (header_of k (drop 7 t)) None ≡ header_of k field) (sym is) refl in
    begun key p.whole
    ∙ ap (λ (n : List ℕ). header_asked key n (asked_among endings (back is_name_octet field))) name
    ∙ ap (λ (o : Option Asked). header_asked key h.name o) asked
    ∙ make key h.name (h.form, h.all) (not_nil h.name p.is_named.1) p.takes_form
    ∙ ap (λ (k : List ℕ). Some (made k h.name (h.form, h.all))) (sym p.key_is)

sound_of : (h : HeaderAsked) (key field : List ℕ) → key ≡ codes "header:" ++ field → header_of key field ≡ Some h → IsHeaderProperty h key
sound_of h key field whole is =
    let name = front is_name_octet field in
    let rest = back is_name_octet field in
    elim (asked_among endings rest) as (λ (o : Option Asked). asked_among endings rest ≡ o → header_asked key name o ≡ Some h → IsHeaderProperty h key) [
      | None ↦ λ none i. absurd cc
      | Some a ↦ λ asked i.
          let e : IsEnding rest a.0 a.1 = found endings rest a are_rows asked in
          let m : IsMade key name a h = is_made key name a h i in
          subst (λ (g : HeaderAsked). IsHeaderProperty g key) m.is (record {
            suffix = e.suffix;
            key_is = refl;
            whole = whole ∙ ap (λ (t : List ℕ). codes "header:" ++ t) (front_back is_name_octet field ∙ ap (λ (t : List ℕ). name ++ t) e.text_is);
            is_named = (front_each is_name_octet field, λ nil. let z = sym (ap (λ (t : List ℕ). length t == 0) nil) ∙ m.some in absurd cc);
            asks_form = e.asks;
            takes_form = m.takes;
          })
    ] refl is

-- what is read is a property
pub sound : (h : HeaderAsked) (key : List ℕ) → header_in key ≡ Some h → IsHeaderProperty h key
sound h key is =
    let first = codes "header:" in
    elim (begins_with key first) as (λ b. begins_with key first ≡ b → cond b (header_of key (drop 7 key)) None ≡ Some h → IsHeaderProperty h key) [
      | true ↦ λ begins i.
          let front_is : take 7 key ≡ first = (bytes_eq-Decides (take 7 key) first).0 begins in
          sound_of h key (drop 7 key) (sym (take-append-drop 7 key) ∙ ap (λ (t : List ℕ). t ++ drop 7 key) front_is) i
      | false ↦ λ other i. absurd cc
    ] refl is

-- a text is one property at most
pub one : (g h : HeaderAsked) (key : List ℕ) → IsHeaderProperty g key → IsHeaderProperty h key → g ≡ h
one g h key p q =
    let a = complete g key p in
    let b = complete h key q in
    cc

-- what is read, in the words of the grammar
pub exact : (key : List ℕ) (r : Option HeaderAsked) → r ≡ header_in key
    → MatchOption r ((h : HeaderAsked) → IsHeaderProperty h key → ⊥) (λ h. IsHeaderProperty h key)
exact key None is = λ h p. let a = complete h key p in absurd cc
exact key (Some h) is = sound h key (sym is)
