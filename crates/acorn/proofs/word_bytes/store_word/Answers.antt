-- `acorn::word_bytes::store_word` meets its contract.
use mathlib.Core.Path.{◌∙◌, sym}
use native.Mathlib.Omega.{arith}
use Rattle.std.proofs.lemmas.Slice.{put_mid-paste}
use Rattle.acorn_model.specs.Bits.{bit}
use Rattle.acorn_model.proofs.Bytes.{bytes-length}
use Rattle.acorn.proofs.Strings.{le_bytes-is}
use Rattle.acorn.proofs.word_bytes.store_word.Goals as goal

pub returns : goal.returns
returns c =
    put_mid-paste _ _ _ _ _ _ (c.copy_from_slice.ensures.after ∙ c.to_le_bytes.ensures ∙ le_bytes-is c.args.x) (omega arith) (sym (bytes-length 4 (bit c.args.x)))
