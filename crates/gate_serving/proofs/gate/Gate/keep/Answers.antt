use Rattle.std.proofs.Common.{List, [], ℕ, refl, subst}
use Rattle.serde_json.specs.Written.{compact_text}
use Rattle.gate_serving.specs.Answers.{KeepsUpload, json_answer, upload_data}
use Rattle.gate_serving.specs.Doing.{Comes}
use Rattle.gate_serving.specs.Requests.{Upload}
use Rattle.gate_serving.proofs.Answering.{made_for}
use Rattle.gate_serving.proofs.Doing.{asks_nothing}
use Rattle.gate_serving.proofs.gate.Gate.keep.Goals as goal

pub returns-in-Ok-clause-made : goal.returns-in-Ok-clause-made
returns-in-Ok-clause-made c =
    made_for c.args.self.now (record c.args.self.now { uploads = c.put.new.self }) (Upload c.args.upload.now.media c.args.upload.now.octets)
    (Upload c.args.upload.now.media c.args.upload.now.octets) (json_answer 201 (compact_text (upload_data c.args.upload.now.media c.args.upload.now.octets)))
    c.upload_response.result refl
    (subst (λ (o : List ℕ). KeepsUpload (Upload c.args.upload.now.media o) c.args.self.now.uploads c.put.new.self) c.as_slice.ensures c.in-Ok.ensures.kept)
    (λ s m. Comes [] _ asks_nothing) c.upload_response.ensures
