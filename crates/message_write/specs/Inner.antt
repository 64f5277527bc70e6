-- What the view of a write shows.
-- Assumes nothing: these are definitions.
use Rattle.std.specs.Prelude.{ℕ, [], ◌∷◌, ℤ}
use Rattle.opmsg.specs.Sections.{body_at}
use Rattle.opmsg.specs.View.{padded}
use Rattle.opmsg.specs.declared.View.{View}

-- the view of a message of so many bytes whose one section is a body
unfoldable pub shown : (request_id response_to : ℤ) → (flags length size elements : ℕ) → View
shown request_id response_to flags length size elements = record {
  length = length;
  request_id = request_id;
  response_to = response_to;
  flags = flags;
  entries = padded (body_at 20 size ∷ []);
  elements = elements;
}
