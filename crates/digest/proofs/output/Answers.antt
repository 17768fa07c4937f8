-- `output` meets its contract. Assumes nothing.
use Rattle.std.proofs.Common.{refl, ◌∙◌}
use Rattle.rfc1321.specs.Md5.{bytes, output}
use Rattle.digest.proofs.output.Goals as goal

pub returns : goal.returns
unfolding output bytes
returns c =
    rw (
      c.copy_from_slice.ensures.after ∙ c.to_le_bytes.ensures,
      c.copy_from_slice-2.ensures.after ∙ c.to_le_bytes-2.ensures,
      c.copy_from_slice-3.ensures.after ∙ c.to_le_bytes-3.ensures,
      c.copy_from_slice-4.ensures.after ∙ c.to_le_bytes-4.ensures,
    ) refl
