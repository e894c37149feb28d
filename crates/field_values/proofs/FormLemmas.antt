-- The data of raw values: no number in them has a fraction, and each form gives one.
use Rattle.std.proofs.Common.{◌≡◌, ◌∙◌, ℕ, false, refl, sym, ap, subst, List, [], Option, Some, None}
use Rattle.serde_json.specs.Data.{Data, string}
use Rattle.serde_json.specs.Written.{has_float}
use Rattle.email_properties.specs.declared.header_form.HeaderForm.{HeaderForm}
use Rattle.email_properties.specs.declared.header_form.HeaderForm.TheVariants.{Raw, Text, Addresses, GroupedAddresses, MessageIds, Date, Urls}
use Rattle.header_words.proofs.WordLemmas.{one_text}
use Rattle.header_addresses.specs.declared.address.Address.{Address}
use Rattle.header_addresses.specs.declared.address.Group.{Group}
use Rattle.loose_addresses.proofs.LooseLemmas.{one_loose_addresses, one_loose_groups}
use Rattle.header_dates.specs.declared.date.Moment.{Moment}
use Rattle.header_dates.proofs.DateLemmas.{one_date}
use Rattle.mail_header.specs.Bracketed.{IsNamesForm}
use Rattle.mail_header.proofs.BracketLemmas.{one_names}
use Rattle.json_texts.specs.Texts.{text_data}
use Rattle.json_texts.proofs.WholeLemmas.{items_whole, text_whole}
use Rattle.field_values.specs.Forms.{address_data, group_data, addresses_data, groups_data, names_data, IsMomentData, IsFormData}
use Rattle.field_values.specs.MomentText.{IsMomentText}
use Rattle.field_values.proofs.MomentLemmas.{one_moment_text}

-- ---- no number has a fraction: there is none

address_whole : (a : Address) → has_float (address_data a) ≡ false
address_whole a = rw (text_whole a.name) refl

addresses_whole : (read : Option (List Address)) → has_float (addresses_data read) ≡ false
addresses_whole None = refl
addresses_whole (Some list) = items_whole address_data list address_whole

group_whole : (g : Group) → has_float (group_data g) ≡ false
group_whole g = rw (items_whole address_data g.members address_whole) (rw (text_whole g.name) refl)

groups_whole : (read : Option (List Group)) → has_float (groups_data read) ≡ false
groups_whole None = refl
groups_whole (Some list) = items_whole group_data list group_whole

names_whole : (read : Option (List (List ℕ))) → has_float (names_data read) ≡ false
names_whole None = refl
names_whole (Some names) = items_whole text_data names (λ t. refl)

pub moment_whole : (read : Option Moment) (d : Data) → IsMomentData read d → has_float d ≡ false
moment_whole None d h = ap has_float h
moment_whole (Some m) d h = ap has_float h.2

-- no form of a raw value has a fraction
pub form_whole : (form : HeaderForm) (raw : List ℕ) (d : Data) → IsFormData form raw d → has_float d ≡ false
form_whole Raw raw d h = ap has_float h
form_whole Text raw d h = ap has_float h.2
form_whole Addresses raw d h = ap has_float h.2 ∙ addresses_whole h.0
form_whole GroupedAddresses raw d h = ap has_float h.2 ∙ groups_whole h.0
form_whole MessageIds raw d h = ap has_float h.2 ∙ names_whole h.0
form_whole Date raw d h = moment_whole h.0 d h.2
form_whole Urls raw d h = ap has_float h.2 ∙ names_whole h.0

-- ---- a raw value has one data in each form

one_read : (raw : List ℕ) (x y : Option (List (List ℕ))) → IsNamesForm x raw → IsNamesForm y raw → x ≡ y
one_read raw None None p q = refl
one_read raw None (Some n) p q = absurd (q.0 (one_names n [] _ q.1 p))
one_read raw (Some m) None p q = absurd (p.0 (one_names m [] _ p.1 q))
one_read raw (Some m) (Some n) p q = ap Some (one_names m n _ p.1 q.1)

pub one_moment_data : (x y : Option Moment) (d e : Data) → x ≡ y → IsMomentData x d → IsMomentData y e → d ≡ e
one_moment_data None None d e same p q = p ∙ sym q
one_moment_data None (Some m) d e same p q = absurd (cc)
one_moment_data (Some m) None d e same p q = absurd (cc)
one_moment_data (Some m) (Some n) d e same p q =
    let moment : m ≡ n = cc in
    p.2 ∙ ap string (one_moment_text n p.0 q.0 (subst (λ k. IsMomentText k p.0) moment p.1) q.1) ∙ sym q.2

-- a raw value has at most one data in a form
pub one_form_data : (form : HeaderForm) (raw : List ℕ) (d e : Data) → IsFormData form raw d → IsFormData form raw e → d ≡ e
one_form_data Raw raw d e p q = p ∙ sym q
one_form_data Text raw d e p q = p.2 ∙ ap text_data (one_text false _ p.0 q.0 p.1 q.1) ∙ sym q.2
one_form_data Addresses raw d e p q = p.2 ∙ ap addresses_data (one_loose_addresses raw p.0 q.0 p.1 q.1) ∙ sym q.2
one_form_data GroupedAddresses raw d e p q = p.2 ∙ ap groups_data (one_loose_groups raw p.0 q.0 p.1 q.1) ∙ sym q.2
one_form_data MessageIds raw d e p q = p.2 ∙ ap names_data (one_read raw p.0 q.0 p.1 q.1) ∙ sym q.2
one_form_data Date raw d e p q = one_moment_data p.0 q.0 d e (one_date raw p.0 q.0 p.1 q.1) p.2 q.2
one_form_data Urls raw d e p q = p.2 ∙ ap names_data (one_read raw p.0 q.0 p.1 q.1) ∙ sym q.2
