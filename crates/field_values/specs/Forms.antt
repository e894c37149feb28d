-- The data of a raw value in each form (RFC 8621 section 4.1.2).
use Rattle.std.specs.Prelude.{◌≡◌, ℕ, List, Option, Some, None, codes, map}
use Rattle.serde_json.specs.Data.{Data, null, string, array, object, no_members, member}
use Rattle.serde_json.specs.View.{items_of}
use Rattle.email_properties.specs.declared.header_form.HeaderForm.{HeaderForm}
use Rattle.email_properties.specs.declared.header_form.HeaderForm.TheVariants as form
use Rattle.header_addresses.specs.declared.address.Address.{Address}
use Rattle.header_addresses.specs.declared.address.Group.{Group}
use Rattle.header_dates.specs.declared.date.Moment.{Moment}
use Rattle.header_dates.specs.Dates.{IsDateForm}
use Rattle.mail_header.specs.Bracketed.{IsNamesForm}
use Rattle.mail_header.specs.RawForms.{raw_form, IsTextForm}
use Rattle.loose_addresses.specs.LooseForms.{IsLooseAddressesForm, IsLooseGroupsForm}
use Rattle.json_texts.specs.Texts.{text_data, optional_text, text_list}
use Rattle.field_values.specs.MomentText.{IsMomentText}

-- an EmailAddress (RFC 8621 section 4.1.2.3)
abbrev pub address_data : Address → Data
address_data a = object (member (codes "email") (text_data a.email) (member (codes "name") (optional_text a.name) no_members))

abbrev pub address_list : List Address → Data
address_list addresses = array (items_of (map address_data addresses))

-- an EmailAddressGroup (RFC 8621 section 4.1.2.4)
abbrev pub group_data : Group → Data
group_data g = object (member (codes "addresses") (address_list g.members) (member (codes "name") (optional_text g.name) no_members))

-- ---- what is read of a raw value; null where there is no reading

abbrev pub addresses_data : Option (List Address) → Data
addresses_data None = null
addresses_data (Some list) = address_list list

abbrev pub groups_data : Option (List Group) → Data
groups_data None = null
groups_data (Some list) = array (items_of (map group_data list))

abbrev pub names_data : Option (List (List ℕ)) → Data
names_data None = null
names_data (Some names) = text_list names

abbrev pub IsMomentData : Option Moment → Data → Type 0
IsMomentData None d = d ≡ null
IsMomentData (Some m) d = (text : List ℕ) × IsMomentText m text × (d ≡ string text)

-- ---- the forms

abbrev pub IsFormData : HeaderForm → List ℕ → Data → Type 0
IsFormData form.Raw raw d = d ≡ text_data (raw_form raw)
IsFormData form.Text raw d = (text : List ℕ) × IsTextForm text raw × (d ≡ text_data text)
IsFormData form.Addresses raw d = (read : Option (List Address)) × IsLooseAddressesForm raw read × (d ≡ addresses_data read)
IsFormData form.GroupedAddresses raw d = (read : Option (List Group)) × IsLooseGroupsForm raw read × (d ≡ groups_data read)
IsFormData form.MessageIds raw d = (read : Option (List (List ℕ))) × IsNamesForm read raw × (d ≡ names_data read)
IsFormData form.Date raw d = (read : Option Moment) × IsDateForm raw read × IsMomentData read d
IsFormData form.Urls raw d = (read : Option (List (List ℕ))) × IsNamesForm read raw × (d ≡ names_data read)
