-- Updates of Emails as the code has them.
use Rattle.std.specs.Prelude.{option_map}
use Rattle.email_checks.specs.Steps as spec
use Rattle.email_checks.specs.declared.email_update.EmailUpdate.{EmailUpdate}

abbrev pub update_data : EmailUpdate → spec.EmailUpdate
update_data u = record {
  email = u.email;
  mark = u.mark;
  uid = u.uid;
  folder = u.folder.now;
  sets = u.sets;
  takes = u.takes;
  asked = u.asked;
  target = option_map (λ f. f.now) u.target;
}
