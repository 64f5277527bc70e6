-- What the answer on documents back to back stands for in document 01's terms.
-- Assumes nothing: these are definitions.
use Rattle.std.specs.Prelude.{Result, Ok, Err}
use Rattle.wire.specs.Outcome.{Outcome, ok}
use Rattle.refusal.specs.declared.Refusal.{Refusal}
use Rattle.refusal.specs.Told.{told}
use Rattle.opmsg.specs.Sections as Sections
use Rattle.opmsg_documents.specs.declared.Counted.{Counted}

-- documents back to back
abbrev pub told_run : Result Counted Refusal → Outcome Sections.Run
told_run (Ok c) = ok (record { documents = c.documents; elements = c.elements })
told_run (Err r) = told (Err r)
