-- `host::texts::texts` meets its contract, by computing.
use mathlib.Core.Path.{refl}
use Rattle.host.specs.Texts.{all_texts, joined, refusal_texts}
use Rattle.host.proofs.texts.texts.Goals as goal

pub returns : goal.returns
unfolding all_texts joined refusal_texts
returns c = refl
