-- The program's answers as text (RULES 7).
use Rattle.std.specs.Prelude.{cond, List, [], ◌∷◌, ◌++◌, ℕ, suc, eqb}
use Rattle.gtb.specs.declared.Refusal.{Refusal}
use Rattle.gtb.specs.Answer.{refusal_number}
use Rattle.lines.specs.declared.Kind.TheVariants as kind
use Rattle.lines.specs.Text.{names_calls, outcome_text, count_text}
use Rattle.session.specs.declared.Outcome.{Outcome}
use Rattle.session.specs.declared.Outcome.TheVariants.{Taken, Again, Refused}
use Rattle.capture.specs.declared.Answer.{Answer}
use Rattle.capture.specs.declared.Answer.TheVariants.{Nothing, Word, Head}

-- outcome, page or refusal number, digits changed
unfoldable pub outcome_line : Outcome → List ℕ
outcome_line (Taken number k) = outcome_text kind.Taken number k
outcome_line (Again number k) = outcome_text kind.Again number k
outcome_line (Refused e) = outcome_text kind.Refused (refusal_number e) 0

abbrev pub refused_line : Refusal → List ℕ
refused_line e = outcome_line (Refused e)

abbrev pub answer_text : Answer → List ℕ
answer_text Nothing = []
answer_text (Word r) = outcome_line r
answer_text (Head e) = refused_line e

-- one after the other
unfoldable pub answers_text : List Answer → List ℕ
answers_text [] = []
answers_text (a ∷ answers) = answer_text a ++ answers_text answers

-- function and calls from function f on, counts above zero only
unfoldable pub calls_from : ℕ → List ℕ → List ℕ
calls_from f [] = []
calls_from f (k ∷ calls) = cond (eqb k 0) (calls_from (suc f) calls) (count_text f k ++ calls_from (suc f) calls)

-- the second table
unfoldable pub calls_text : List ℕ → List ℕ
calls_text calls = names_calls ++ calls_from 0 calls
