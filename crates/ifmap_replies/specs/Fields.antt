-- What the values of attributes of results mean: IF-MAP binding for SOAP, version 2.2, section 3.
use Rattle.std.specs.Prelude.{ℕ, List, [], ◌∷◌, codes, Option, None, Some}
use Rattle.std.specs.List.{find}
use Rattle.std.specs.Str.{bytes_eq}
use Rattle.ifmap_ident.specs.declared.codes.Code.{Code}
use Rattle.ifmap_ident.specs.declared.codes.Code.TheVariants.{AccessDenied, Failure, InvalidIdentifier, InvalidIdentifierType}
use Rattle.ifmap_ident.specs.declared.codes.Code.TheVariants.{IdentifierTooLong, InvalidMetadata, InvalidSchemaVersion, InvalidSessionID}
use Rattle.ifmap_ident.specs.declared.codes.Code.TheVariants.{MetadataTooLong, SearchResultsTooBig, PollResultsTooBig, SystemError}
use Rattle.ifmap_ident.specs.Codes.{code_name}
use Rattle.ifmap_forms.specs.Checks.{Check, fail, need_some, pass}
use Rattle.ifmap_forms.specs.Values.{Field, word_check}

-- a number below 2^32, which must be there
abbrev pub read_word : Option (List ℕ) → Check ℕ
read_word None = fail Failure
read_word (Some text) = word_check text

abbrev pub word_field : List ℕ → Field ℕ
word_field local = record { local = local; reads = λ scope. read_word }

-- all codes
abbrev pub all_codes : List Code
all_codes =
    AccessDenied ∷ (Failure ∷ (InvalidIdentifier ∷ (InvalidIdentifierType ∷ (IdentifierTooLong ∷ (InvalidMetadata ∷ (InvalidSchemaVersion
    ∷ (InvalidSessionID ∷ (MetadataTooLong ∷ (SearchResultsTooBig ∷ (PollResultsTooBig ∷ (SystemError ∷ [])))))))))))

abbrev pub code_of : List ℕ → Option Code
code_of text = find (λ code. bytes_eq (code_name code) text) all_codes

-- the name of a code, which must be there
abbrev pub read_code : Option (List ℕ) → Check Code
read_code None = fail Failure
read_code (Some text) = need_some Failure (code_of text) (λ code. pass code)

abbrev pub code_field : Field Code
code_field = record { local = codes "errorCode"; reads = λ scope. read_code }

-- any text, where there is one
abbrev pub read_optional : Option (List ℕ) → Check (Option (List ℕ))
read_optional text = pass text

abbrev pub optional_field : List ℕ → Field (Option (List ℕ))
optional_field local = record { local = local; reads = λ scope. read_optional }
