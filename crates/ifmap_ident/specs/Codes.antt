-- How the error codes are written: the errorCode attribute of the IF-MAP binding for SOAP, version 2.2.
use Rattle.std.specs.Prelude.{ℕ, List, codes}
use Rattle.ifmap_ident.specs.declared.codes.Code.{Code}
use Rattle.ifmap_ident.specs.declared.codes.Code.TheVariants.{AccessDenied, Failure, InvalidIdentifier, InvalidIdentifierType, IdentifierTooLong, InvalidMetadata, InvalidSchemaVersion, InvalidSessionID, MetadataTooLong, SearchResultsTooBig, PollResultsTooBig, SystemError}

abbrev pub code_name : Code → List ℕ
code_name AccessDenied = codes "AccessDenied"
code_name Failure = codes "Failure"
code_name InvalidIdentifier = codes "InvalidIdentifier"
code_name InvalidIdentifierType = codes "InvalidIdentifierType"
code_name IdentifierTooLong = codes "IdentifierTooLong"
code_name InvalidMetadata = codes "InvalidMetadata"
code_name InvalidSchemaVersion = codes "InvalidSchemaVersion"
code_name InvalidSessionID = codes "InvalidSessionID"
code_name MetadataTooLong = codes "MetadataTooLong"
code_name SearchResultsTooBig = codes "SearchResultsTooBig"
code_name PollResultsTooBig = codes "PollResultsTooBig"
code_name SystemError = codes "SystemError"
