use Rattle.blif_read.proofs.Passing.{all_tokens}
use Rattle.blif_read.proofs.token_list.Tokens.at.Goals as goal

pub returns : goal.returns
returns c = all_tokens c.args.text.now _ c.requires.part
