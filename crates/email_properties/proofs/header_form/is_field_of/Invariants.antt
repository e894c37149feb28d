use Rattle.std.proofs.Common.{◌≡◌, drop, map}
use Rattle.email_properties.specs.HeaderForms.{is_field_of}
use Rattle.email_properties.proofs.header_form.is_field_of.Given as goal

-- the field is one of all where it is one of the rest
abbrev pub invariant-loop-field : goal.invariant-loop-field
invariant-loop-field l = is_field_of (map (λ f. f.now) l.fields) l.name ≡ is_field_of (map (λ f. f.now) (drop l.field-index l.fields)) l.name
