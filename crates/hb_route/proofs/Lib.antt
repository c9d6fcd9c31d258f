pub mod Choice
pub mod Chosen
pub mod Counting
pub mod Meshes
pub mod Serving
pub mod WaypointMeshes
pub mod Waypoints
