-- The names of error codes are characters that a document can have.
use Rattle.std.proofs.Common.{◌≡◌, true, refl}
use Rattle.std.specs.List.{list_all}
use Rattle.ifmap_elem.specs.Chars.{IsCharacters}
use Rattle.ifmap_elem.specs.laws.CharacterLaws.{is_plain, plain_characters}
use Rattle.ifmap_ident.specs.Codes.{code_name}
use Rattle.ifmap_ident.specs.declared.codes.Code.{Code}
use Rattle.ifmap_ident.specs.declared.codes.Code.TheVariants.{AccessDenied, Failure, InvalidIdentifier, InvalidIdentifierType}
use Rattle.ifmap_ident.specs.declared.codes.Code.TheVariants.{IdentifierTooLong, InvalidMetadata, InvalidSchemaVersion, InvalidSessionID}
use Rattle.ifmap_ident.specs.declared.codes.Code.TheVariants.{MetadataTooLong, SearchResultsTooBig, PollResultsTooBig, SystemError}
use Rattle.ifmap_lemmas.specs.Members.{all_of_test}

code_plain : (code : Code) → list_all is_plain (code_name code) ≡ true
code_plain AccessDenied = refl
code_plain Failure = refl
code_plain InvalidIdentifier = refl
code_plain InvalidIdentifierType = refl
code_plain IdentifierTooLong = refl
code_plain InvalidMetadata = refl
code_plain InvalidSchemaVersion = refl
code_plain InvalidSessionID = refl
code_plain MetadataTooLong = refl
code_plain SearchResultsTooBig = refl
code_plain PollResultsTooBig = refl
code_plain SystemError = refl

pub code_characters : (code : Code) → IsCharacters (code_name code)
code_characters code = plain_characters (code_name code) (all_of_test is_plain (code_name code) (code_plain code))
