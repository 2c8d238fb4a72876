-- When two messages say the same: they are of one type, have as many fields, and field by field they say the same. Assumes nothing.
use Rattle.kinds.specs.Kinds.{forms_of}
use Rattle.records.specs.Records.{Records}
use Rattle.forms.specs.Meaning.{AllAlike}
use Rattle.message.specs.Message.{Message, fields_of}

pub data SameMessage (M : Message) : Message → Type 0 where
  same_fields : (qs : Records (fields_of M.type M.count)) → AllAlike (forms_of M.type M.count) M.fields qs
      → SameMessage M (record { type = M.type; count = M.count; fields = qs })
