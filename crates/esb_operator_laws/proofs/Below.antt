-- What is read within the levels below.
use Rattle.std.proofs.Common.{ℕ, suc, Bool, arith}
use Rattle.esb_token.specs.declared.token.Token.{Token}
use Rattle.esb_reader.specs.declared.node.Node.{Node}
use Rattle.esb_reader.specs.Places.{Text}
use Rattle.esb_reader.specs.Reader.{Reader, fail}
use Rattle.esb_reader.specs.Stands.{Syntax, Rule}

-- no node has fewer levels than none
pub none_below : {A : Type 0} (text : Text) (S : Syntax A) (stops : A → Token → Bool) → Rule text S 0 0 stops fail
none_below text S stops = record { sound = λ i x j h. cc; complete = λ i x j stands low stop. absurd (omega (arith, low)) }

pub rule_below : {A : Type 0} (text : Text) (S : Syntax A) (n : ℕ) (stops : A → Token → Bool) (read : Reader (Node A)) → Rule text S n (suc n) stops read → Rule text S (suc n) (suc n) stops read
rule_below text S n stops read rule = record {
  sound = λ i x j h. let s = rule.sound i x j h in record { good = s.good; levels = s.levels; fits = let f = s.fits in omega (arith, f); spelled = s.spelled };
  complete = λ i x j stands low stop. rule.complete i x j (record { good = stands.good; levels = stands.levels; fits = omega (arith, low); spelled = stands.spelled }) low stop;
}
