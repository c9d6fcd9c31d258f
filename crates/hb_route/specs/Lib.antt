pub mod Answer
pub mod Endpoint
pub mod Laws
pub mod Opens
pub mod Ports
pub mod Routing
pub mod Waypoint
pub mod WaypointLaws
