-- `host::texts::starts` meets its contract, by computing.
use mathlib.Core.Path.{refl}
use Rattle.host.specs.Texts.{text_starts, starts_from, refusal_texts}
use Rattle.host.proofs.texts.starts.Goals as goal

pub returns : goal.returns
unfolding text_starts starts_from refusal_texts
returns c = refl
