-- `host::pair::put_symbol` meets its contract.
use mathlib.Core.Path.{◌∙◌}
use Rattle.host.specs.Bytes.{bytes_of}
use Rattle.host.proofs.Steps.{put}
use Rattle.host.proofs.pair.put_symbol.Goals as goal

pub returns : goal.returns
unfolding bytes_of
returns c = put c.args.bytes.now c.args.at c.args.symbol (c.copy_from_slice.ensures.after ∙ c.to_le_bytes.ensures)
