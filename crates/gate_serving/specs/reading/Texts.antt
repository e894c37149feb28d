-- The text of a response, as the code has it.
use Rattle.std.specs.Prelude.{ℕ, List}
use Rattle.gate_serving.specs.declared.response.Response.{Response}
use Rattle.gate_serving.specs.declared.response.Response.TheVariants.{Line, LineEnd, Http}
use Rattle.gate_serving.specs.Answers.{line_end}

abbrev pub text_sent : Response → List ℕ
text_sent (Line octets) = octets
text_sent LineEnd = line_end
text_sent (Http response) = response
