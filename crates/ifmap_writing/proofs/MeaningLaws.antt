-- The bytes that are written of a request that is fit and within its bounds mean that request. Plan: (1) its filters are read back in
-- each scope of what is written; (2) the bytes; (3) what is answered to them.
use Rattle.std.proofs.Common.{◌≡◌, ◌≤◌, ℕ, List, [], ◌∷◌, Option, None, Some, Ok, refl, subst}
use Rattle.std.specs.Prelude.{MatchResult, Result, Err}
use Rattle.std.specs.List.{AllByRecursion}
use Rattle.ifmap_elem.specs.Arranged.{arrange}
use Rattle.ifmap_elem.specs.Canonical.{root_declarations, written_bytes, written_reading}
use Rattle.ifmap_elem.specs.Fit.{IsDeclarable, IsFit}
use Rattle.ifmap_elem.specs.Namespaces.{namespaces}
use Rattle.ifmap_elem.specs.Nesting.{nesting}
use Rattle.ifmap_elem.specs.Spells.{Spells}
use Rattle.ifmap_elem.specs.declared.elements.Element.{Element}
use Rattle.ifmap_elem.specs.declared.readings.Reading.{Reading}
use Rattle.ifmap_requests.specs.ifmap_envelopes.Envelopes.{in_envelope}
use Rattle.ifmap_requests.specs.ifmap_envelopes.MakingLaws.{made_envelope}
use Rattle.ifmap_requests.specs.ifmap_forms.Scopes.{Scopes}
use Rattle.ifmap_ident.specs.ifmap_reader.declared.scoping.Scope.{Scope}
use Rattle.ifmap_filter.specs.declared.filters.Filter.{Filter}
use Rattle.ifmap_filter.specs.Laws.{PrintedIsParsedBack}
use Rattle.ifmap_filter.specs.Printing.{filter_text, numbered_scope}
use Rattle.ifmap_filter.specs.Spaces.{ListedServeEach}
use Rattle.ifmap_filter.specs.Texts.{WritesFilter}
use Rattle.ifmap_ident.specs.declared.identifiers.Identifier.{Identifier}
use Rattle.ifmap_ident.specs.Canon.{IsCanon, IsIdentifier}
use Rattle.ifmap_ident.specs.Identifiers.{identifier_element}
use Rattle.ifmap_meta.specs.declared.metadata.Metadata.{Metadata}
use Rattle.ifmap_meta.specs.Whole.{IsMadeOf, IsMetadata}
use Rattle.ifmap_search.specs.declared.searches.Search as search
use Rattle.ifmap_requests.specs.declared.publish_ops.PublishOp.{PublishOp}
use Rattle.ifmap_requests.specs.declared.publish_ops.PublishOp.TheVariants as publish
use Rattle.ifmap_requests.specs.declared.requests.Request.{Request}
use Rattle.ifmap_requests.specs.declared.requests.Request.TheVariants.{NewSession, RenewSession, EndSession, Publish, Search, Subscribe}
use Rattle.ifmap_requests.specs.declared.requests.Request.TheVariants.{Poll, PurgePublisher}
use Rattle.ifmap_requests.specs.declared.requests.SubscribeOp.{SubscribeOp}
use Rattle.ifmap_requests.specs.declared.requests.SubscribeOp.TheVariants as subscribe
use Rattle.ifmap_requests.specs.declared.errors.Refusal.{Refusal}
use Rattle.ifmap_requests.specs.declared.errors.Refusal.TheVariants as refusal
use Rattle.ifmap_requests.specs.Laws.{OneMeaning}
use Rattle.ifmap_requests.specs.Means.{IsBodyAnswer, Means, scopes_from}
use Rattle.ifmap_requests.specs.Fit.{IsFitOp, IsFitRequest, IsFitSearch, IsFitSubscribeOp, MayBeFitFilter}
use Rattle.ifmap_writing.specs.Bounds.{IsBounded}
use Rattle.ifmap_writing.specs.RequestElements.{request_bytes, request_element}
use Rattle.ifmap_writing.specs.RequestSpaces.{ServeFilter, ServePublish, ServeRequest, ServeSearch, ServeSubscribe, request_spaces}
use Rattle.ifmap_writing.proofs.ReadLaws.{ArePublishRead, AreReadIn, AreSubscribeRead, IsReadIn, IsReadRequest, request_back}
use Rattle.ifmap_writing.proofs.ScopeLaws.{its_rows, written_there}
use Rattle.ifmap_writing.proofs.SpaceLaws.{own_serve}
use Rattle.ifmap_writing.proofs.WrittenLaws.{envelope_sound, spaces_declarable}

-- ---- (1) filters

module _ (parsed : PrintedIsParsedBack) (spaces : List (List ℕ)) where
  -- what is written in the prefixes of these namespaces is written in this scope
  abbrev Holds : Scope → Type 0
  Holds scope = (text : List ℕ) (filter : Filter) → WritesFilter text (numbered_scope spaces) filter → WritesFilter text scope filter

  module _ (scope : Scope) (holds : Holds scope) where
    filter_read : (filter : Option Filter) → ServeFilter spaces filter → MayBeFitFilter filter → IsReadIn spaces filter scope
    filter_read None serve f = tt
    filter_read (Some filter) serve f = holds (filter_text spaces filter) filter (parsed spaces filter serve f.written)

    search_read : (s : search.Search) → ServeSearch spaces s → IsFitSearch s → AreReadIn spaces s scope
    search_read s serve f = record {
      match_links = filter_read s.match_links serve.match_links f.match_links;
      result_filter = filter_read s.result_filter serve.result_filter f.result_filter;
    }

    publish_read : (ops : List PublishOp) → AllByRecursion (ServePublish spaces) ops → AllByRecursion IsFitOp ops
        → ArePublishRead spaces ops scope
    publish_read [] serve f = tt
    publish_read (publish.Update item elements forever ∷ ops) serve f = (tt, publish_read ops serve.1 f.1)
    publish_read (publish.Notify item elements ∷ ops) serve f = (tt, publish_read ops serve.1 f.1)
    publish_read (publish.Delete item filter ∷ ops) serve f = (filter_read filter serve.0 f.0.1, publish_read ops serve.1 f.1)

    subscribe_read : (ops : List SubscribeOp) → AllByRecursion (ServeSubscribe spaces) ops → AllByRecursion IsFitSubscribeOp ops
        → AreSubscribeRead spaces ops scope
    subscribe_read [] serve f = tt
    subscribe_read (subscribe.Update name s ∷ ops) serve f = (search_read s serve.0 f.0.1, subscribe_read ops serve.1 f.1)
    subscribe_read (subscribe.Delete name ∷ ops) serve f = (tt, subscribe_read ops serve.1 f.1)

  request_read : (scopes : Scopes) → ((path : List ℕ) → Holds (scopes path)) → (r : Request) → ServeRequest spaces r → IsFitRequest r
      → IsReadRequest spaces r scopes
  request_read scopes holds (NewSession limit) serve f = tt
  request_read scopes holds (RenewSession session) serve f = tt
  request_read scopes holds (EndSession session) serve f = tt
  request_read scopes holds (Publish session ops) serve f = λ path. publish_read (scopes path) (holds path) ops serve f.1
  request_read scopes holds (Search session s) serve f = search_read (scopes []) (holds []) s serve f.1
  request_read scopes holds (Subscribe session ops) serve f = λ path. subscribe_read (scopes path) (holds path) ops serve f.1
  request_read scopes holds (Poll session) serve f = tt
  request_read scopes holds (PurgePublisher session publisher) serve f = tt

-- ---- (2) bytes

module _ (canon : (i : Identifier) → IsIdentifier i → IsCanon (identifier_element i) i)
    (fits : (i : Identifier) → IsIdentifier i → IsFit (identifier_element i))
    (arranged : (i : Identifier) → arrange (identifier_element i) ≡ identifier_element i)
    (levels : (i : Identifier) → nesting (identifier_element i) ≤ 2)
    (made : (m : Metadata) → IsMetadata m → IsMadeOf m.element m)
    (parsed : PrintedIsParsedBack) where
  module _ (each : ListedServeEach) (spells : (e : Element) (spaces : List (List ℕ)) → IsFit e → AllByRecursion IsDeclarable spaces
      → Spells (written_bytes e spaces) (written_reading e spaces)) where
    module _ (r : Request) (f : IsFitRequest r) (within : IsBounded r) where
      abbrev envelope : Element
      envelope = in_envelope (request_element r)

      -- what is read of the bytes
      abbrev reading : Reading
      reading = record { root = envelope; declared = root_declarations (its_rows (namespaces (arrange envelope)) (request_spaces r)) }

      spelled : Spells (written_bytes envelope (request_spaces r)) reading
      spelled =
          let sound = envelope_sound fits arranged levels r f within in
          subst (λ (root : Element). Spells (written_bytes envelope (request_spaces r))
          (record { root = root; declared = root_declarations (its_rows (namespaces (arrange envelope)) (request_spaces r)) }))
          sound.arranged (spells envelope (request_spaces r) sound.fit (spaces_declarable r f))

      pub written_means : Means (request_bytes r) (Ok r)
      unfolding request_bytes
      written_means =
          let sound = envelope_sound fits arranged levels r f within in
          let path : List ℕ = 0 ∷ (0 ∷ []) in
          let scopes : Scopes = scopes_from reading path in
          record {
            reading = reading;
            path = path;
            inner = request_element r;
            envelope = record { spelled = spelled; shallow = sound.within; envelope = made_envelope (request_element r) };
            checked = request_back canon made (request_spaces r) scopes r f within
                (request_read parsed (request_spaces r) scopes
                (λ inner. written_there (namespaces (arrange envelope)) (request_spaces r) path inner) r
                (own_serve each r (request_spaces r) refl) f);
          }

-- ---- (3) answers

abbrev ok_result : Request → Result Request Refusal
ok_result r = Ok r

abbrev err_result : Refusal → Result Request Refusal
err_result refused = Err refused

-- what is answered to bytes that mean a request
pub answers_meaning : OneMeaning → (bytes : List ℕ) (r : Request) → Means bytes (Ok r) → (result : Result Request Refusal)
    → IsBodyAnswer bytes result → MatchResult result (λ read. read ≡ r) (λ error. error ≡ refusal.NoMemory)
answers_meaning one bytes r m (Ok other) a = let same : ok_result other ≡ ok_result r = one bytes (ok_result other) (ok_result r) a m in cc
answers_meaning one bytes r m (Err (refusal.Named code)) a =
    let wrong : err_result (refusal.Named code) ≡ ok_result r = one bytes (err_result (refusal.Named code)) (ok_result r) a m in cc
answers_meaning one bytes r m (Err refusal.Unreadable) a =
    let wrong : err_result refusal.Unreadable ≡ ok_result r = one bytes (err_result refusal.Unreadable) (ok_result r) a m in cc
answers_meaning one bytes r m (Err refusal.NoMemory) a = refl
