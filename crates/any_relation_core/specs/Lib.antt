pub mod AnyRelations
pub mod Classes
pub mod EnvelopeRules
pub mod PlaneRelations
pub mod PlaneSets
