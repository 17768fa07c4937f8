-- A page that was written on. Assumes nothing.
use Rattle.std.specs.Prelude.{◌≡◌, length}
use Rattle.text.specs.declared.Page.{Page}

-- it lies in the buffer that it lay in
abbrev pub SameBuffer : Page → Page → Type 0
SameBuffer p q = (length q.out.now ≡ length p.out.now) × (q.out.ghost_name ≡ p.out.ghost_name)
